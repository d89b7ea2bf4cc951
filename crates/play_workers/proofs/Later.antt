-- A pass after its part is a later one in each shard.
use Rattle.std.proofs.Common.{◌≡◌, ℕ, ℤ, List, [], Result, Ok, Err, sym, subst, ⊎_elim}
use Rattle.ass_num.specs.declared.size.Size.{Size}
use Rattle.cache_kinds.specs.Kinds.{composite_meaning}
use Rattle.mask_caches.specs.Balance.{AreLater}
use Rattle.evict_core.specs.Machine.{Step}
use Rattle.flight_cache.specs.Laws.{IsLater}
use Rattle.flight_cache.specs.Shards.{CachePassView}
use Rattle.flight_cache.proofs.Rows.{later_is_later}
use Rattle.mask_caches.specs.declared.warming.Prefetched.{Prefetched}
use Rattle.renderer.specs.declared.frames.Frame.{Frame}
use Rattle.ass_num.specs.Masks.{MaskValue}
use Rattle.mask_caches.specs.Adding.{Adds}
use Rattle.mask_caches.specs.declared.caches.Caches.{Caches}
use Rattle.mask_caches.specs.declared.passes.CachesPass.{CachesPass}
use Rattle.mask_keys.specs.Equality.{equal_composites}
use Rattle.mask_keys.specs.declared.composite_key.CompositeKey.{CompositeKey}
use Rattle.renderer.specs.Leasing.{AddsVisits}
use Rattle.renderer.specs.Passes.{RenderView, RendererView}
use Rattle.renderer.specs.Rendering.{IsRendered}
use Rattle.renderer.specs.Soon.{IsRenderedThen, IsTriedThenRendered}
use Rattle.renderer.specs.Trying.{AddsNothing, IsTriedFrame}
use Rattle.renderer.specs.Warming.{IsColdAt, IsWarmed, Refused, Unplanned}
use Rattle.turn_cell.proofs.Passes.{Follows_same}
use Rattle.turn_cell.specs.Passes.{Follows}
use Rattle.mask_caches.specs.Warming.{AddsWarming, KeyVisit}
use Rattle.play_workers.proofs.Asked.{pinned_later}

later_none : {K T : Type 0} (pass : CachePassView K T) → IsLater pass pass
later_none pass = record { first = ([], Follows_same pass.first); second = ([], Follows_same pass.second); third = ([], Follows_same pass.third); fourth = ([], Follows_same pass.fourth) }

later_same : {K T : Type 0} (pass after : CachePassView K T) → after ≡ pass → IsLater pass after
later_same pass after same = subst (IsLater pass) (sym same) (later_none pass)

pub caches_same : (pass after : CachesPass) → after ≡ pass → AreLater pass after
caches_same pass after same = subst (AreLater pass) (sym same) record {
  regions = later_none pass.regions;
  masks = later_none pass.masks;
  composites = later_none pass.composites;
}

pub caches_then : (pass mid after : CachesPass) → AreLater pass mid → AreLater mid after → AreLater pass after
caches_then pass mid after one two = record {
  regions = later_is_later pass.regions mid.regions after.regions one.regions two.regions;
  masks = later_is_later pass.masks mid.masks after.masks one.masks two.masks;
  composites = later_is_later pass.composites mid.composites after.composites one.composites two.composites;
}

-- the other two caches are as they were
composites_later : (pass after : CachesPass) → after.masks ≡ pass.masks → after.regions ≡ pass.regions → IsLater pass.composites after.composites → AreLater pass after
composites_later pass after masks regions later = record {
  regions = later_same pass.regions after.regions regions;
  masks = later_same pass.masks after.masks masks;
  composites = later;
}

pub nothing_later : (renderer : RendererView) (pass after : CachesPass) → AddsNothing renderer pass after → AreLater pass after
nothing_later renderer pass after h = composites_later pass after h.others.masks h.others.regions
    record { first = ([], h.nothing.first); second = ([], h.nothing.second); third = ([], h.nothing.third); fourth = ([], h.nothing.fourth) }

visits_later : (caches : Caches) (pass after : CachesPass) (visits : List KeyVisit) (given : List (Step CompositeKey MaskValue)) → AddsVisits caches pass after visits given → AreLater pass after
visits_later caches pass after visits given adds = record { regions = adds.regions.later; masks = adds.masks.later; composites = adds.composites.later }

warming_later : (caches : Caches) (pass after : CachesPass) (visits : List KeyVisit) → AddsWarming caches pass after visits → AreLater pass after
warming_later caches pass after visits adds = record { regions = adds.regions.later; masks = adds.masks.later; composites = adds.composites.later }

-- ---- calls of a renderer

tried_later : (renderer : RendererView) (pass after : RenderView) (t : ℤ) (size : Size) (frame : Frame) → IsTriedFrame renderer pass after t size frame → AreLater pass.caches after.caches
tried_later renderer pass after t size frame h =
    composites_later pass.caches after.caches h.others.masks h.others.regions (pinned_later equal_composites composite_meaning renderer.caches.composites pass.caches.composites after.caches.composites _ h.pinned.pins h.pinned.pinned)

rendered_later : {E : Type 0} (renderer : RendererView) (pass after : RenderView) (t : ℤ) (size : Size) (answer : Result Frame E) → IsRendered renderer pass after t size answer → AreLater pass.caches after.caches
rendered_later renderer pass after t size (Ok frame) h = visits_later renderer.caches pass.caches after.caches h.leased.visits [] h.leased.adds
rendered_later renderer pass after t size (Err wanting) h = ⊎_elim
    (λ same. caches_same pass.caches after.caches same)
    (λ asked. visits_later renderer.caches pass.caches after.caches asked.2.visits _ asked.2.adds)
    h.unleased

-- behind a refusal
then_later : {E : Type 0} (renderer : RendererView) (pass after : RenderView) (t : ℤ) (size : Size) (answer : Result Frame E) → IsRenderedThen renderer pass after t size answer → AreLater pass.caches after.caches
then_later renderer pass after t size answer h =
    caches_then pass.caches h.between after.caches
    (nothing_later renderer pass.caches h.between h.refused.nothing)
    (rendered_later renderer (record pass { caches = h.between }) after t size answer h.rendered)

pub soon_later : {E : Type 0} (renderer : RendererView) (pass after : RenderView) (t : ℤ) (size : Size) (answer : Result Frame E) → IsTriedThenRendered renderer pass after t size answer → AreLater pass.caches after.caches
soon_later {E} renderer pass after t size (Ok frame) h = ⊎_elim (λ tried. tried_later renderer pass after t size frame tried) (λ then. then_later {E = E} renderer pass after t size (Ok frame) then) h
soon_later {E} renderer pass after t size (Err wanting) h = ⊎_elim (λ none. nothing_later renderer pass.caches after.caches none.nothing) (λ then. then_later {E = E} renderer pass after t size (Err wanting) then) h

pub released_later : (renderer : RendererView) (pass after : RenderView) (steps : List (Step CompositeKey MaskValue)) → Adds equal_composites composite_meaning renderer.caches.composites pass.caches.composites after.caches.composites steps
    → after.caches.masks ≡ pass.caches.masks → after.caches.regions ≡ pass.caches.regions → AreLater pass.caches after.caches
released_later renderer pass after steps adds masks regions = composites_later pass.caches after.caches masks regions adds.later

pub warmed_later : {E : Type 0} (renderer : RendererView) (pass after : RenderView) (instants : List ℤ) (size : Size) (answer : Result Prefetched E) → IsWarmed renderer pass after instants size answer → AreLater pass.caches after.caches
warmed_later renderer pass after instants size (Ok count) h = warming_later renderer.caches pass.caches after.caches _ h.2.warmed.adds
warmed_later renderer pass after instants size (Err refused) h = cold h
  where
    cold : IsColdAt renderer pass after instants size → AreLater pass.caches after.caches
    cold (Unplanned none) = record {
      regions = later_same pass.caches.regions after.caches.regions none.caches.regions;
      masks = later_same pass.caches.masks after.caches.masks none.caches.masks;
      composites = later_same pass.caches.composites after.caches.composites none.caches.composites;
    }
    cold (Refused plans n few warmed) = warming_later renderer.caches pass.caches after.caches _ warmed.warmed.adds

pub warmed_track : {E : Type 0} (renderer : RendererView) (pass after : RenderView) (instants : List ℤ) (size : Size) (answer : Result Prefetched E) → IsWarmed renderer pass after instants size answer → Follows pass.track after.track []
warmed_track renderer pass after instants size (Ok count) h = h.2.track
warmed_track renderer pass after instants size (Err refused) h = cold h
  where
    cold : IsColdAt renderer pass after instants size → Follows pass.track after.track []
    cold (Unplanned none) = none.track
    cold (Refused plans n few warmed) = warmed.track
