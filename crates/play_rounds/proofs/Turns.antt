-- Turns that the first pass takes while all others are joined.
use Rattle.std.proofs.Common.{◌≡◌, ℕ, ◌<◌, [], Option, sym, ap, subst, ◌∙◌, arith}
use Rattle.std.specs.List.{All}
use Rattle.ass_events.specs.Histories.{Entry}
use Rattle.cache_kinds.specs.Kinds.{composite_meaning, mask_meaning, region_meaning}
use Rattle.mask_caches.specs.Asks.{HasAsks}
use Rattle.mask_caches.specs.Balance.{IsAccounted}
use Rattle.mask_caches.proofs.Summed.{composites_count_asks, three_balance}
use Rattle.flight_cache.specs.Shards.{EachGives}
use Rattle.mask_caches.specs.Caches.{AreLegal, all_totals, shown_totals}
use Rattle.mask_caches.specs.declared.passes.CachesPass.{CachesPass}
use Rattle.mask_keys.specs.Equality.{equal_composites, equal_masks, equal_regions}
use Rattle.renderer.specs.Passes.{IsNewRenderer, IsPassOfRenderer, RenderView, RendererView}
use Rattle.turn_cell.specs.History.{History}
use Rattle.turn_cell.specs.Passes.{Extends, IsWholePass, PassView}
use Rattle.turn_cell.proofs.Passes.{TakesTurn_itself, length_whole, whole_first, whole_follows}
use Rattle.track_history.specs.Calls.{IsTurn, TrackView, history_of}
use Rattle.track_history.specs.declared.answers.TrackEntry.{TrackEntry}
use Rattle.turn_cell.specs.History.{entry_list}
use Rattle.play_workers.specs.Asks.{masks_seen}
use Rattle.play_rounds.specs.Passes.{IsCacheHome, IsAllJoined}
use Rattle.play_rounds.proofs.CacheAsks.{cache_asks_same, new_asks}
use Rattle.play_rounds.proofs.CacheRounds.{cache_new, cache_turn}
use Rattle.play_rounds.proofs.Shards.{first_itself, same_list}

-- a whole pass finds nothing new
pub nothing_found : {E T : Type 0} (pass : PassView E T) (list : History E) → pass.number ≡ 0 → IsWholePass pass → Extends pass pass.seen → Extends pass list → list ≡ pass.seen
nothing_found pass list zeroth whole itself ex =
    let now = length_whole pass pass.seen zeroth whole itself in let then = length_whole pass list zeroth whole ex in
    same_list pass.seen list ex.begins.0 ex.begins.1 (omega (arith, now, then))

module _ (renderer : RendererView) (first after : RenderView) (entry : Option Entry) (home : IsAllJoined renderer first) (is_of : IsPassOfRenderer renderer after) (turn : IsTurn first.track after.track entry) where
  pub found_same : history_of turn.turn.list ≡ history_of first.track.seen
  found_same = ap (λ (h : History TrackEntry). history_of h) (nothing_found first.track turn.turn.list home.number home.whole home.itself turn.turn.extends)

  pub home_turn : after.caches ≡ first.caches → IsAllJoined renderer after
  home_turn caches = record {
    is_of = is_of;
    number = turn.turn.follows.number ∙ home.number;
    some = let next = turn.turn.follows.next in let some = home.some in omega (arith, next, some);
    itself = TakesTurn_itself first.track after.track turn.given home.number home.some turn.turn;
    whole = whole_follows first.track after.track (entry_list turn.given) home.whole turn.turn.follows;
    regions = subst (λ (p : CachesPass). IsCacheHome equal_regions region_meaning renderer.caches.regions p.regions) (sym caches) home.regions;
    masks = subst (λ (p : CachesPass). IsCacheHome equal_masks mask_meaning renderer.caches.masks p.masks) (sym caches) home.masks;
    composites = subst (λ (p : CachesPass). IsCacheHome equal_composites composite_meaning renderer.caches.composites p.composites) (sym caches) home.composites;
  }

-- a new renderer's pass
pub home_new : (renderer : RendererView) (first : RenderView) (budget : ℕ) → IsNewRenderer renderer first budget → IsAllJoined renderer first
home_new renderer first budget new =
    let is = new.track in record {
      is_of = new.is_of;
      number = ap (λ (p : TrackView). p.number) is;
      some = let next : first.track.next ≡ 1 = ap (λ (p : TrackView). p.next) is in omega (arith, next);
      itself = first_itself renderer.track first.track is;
      whole = whole_first renderer.track first.track is;
      regions = cache_new equal_regions region_meaning renderer.caches.regions first.caches.regions budget new.caches.regions;
      masks = cache_new equal_masks mask_meaning renderer.caches.masks first.caches.masks budget new.caches.masks;
      composites = cache_new equal_composites composite_meaning renderer.caches.composites first.caches.composites budget new.caches.composites;
    }

-- turns of the shards that gave nothing, at which the totals were read
module _ (renderer : RendererView) (first after : RenderView) (home : IsAllJoined renderer first) (is_of : IsPassOfRenderer renderer after) (track : after.track ≡ first.track)
    (regions : EachGives equal_regions region_meaning renderer.caches.regions.shards first.caches.regions after.caches.regions (λ n. []))
    (masks : EachGives equal_masks mask_meaning renderer.caches.masks.shards first.caches.masks after.caches.masks (λ n. []))
    (composites : EachGives equal_composites composite_meaning renderer.caches.composites.shards first.caches.composites after.caches.composites (λ n. [])) where
  pub home_read : IsAllJoined renderer after
  home_read = record {
    is_of = is_of;
    number = ap (λ (p : TrackView). p.number) track ∙ home.number;
    some = subst (λ (p : TrackView). 0 < p.next) (sym track) home.some;
    itself = subst (λ (p : TrackView). Extends p p.seen) (sym track) home.itself;
    whole = subst (λ (p : TrackView). IsWholePass p) (sym track) home.whole;
    regions = cache_turn equal_regions region_meaning renderer.caches.regions first.caches.regions after.caches.regions regions home.regions;
    masks = cache_turn equal_masks mask_meaning renderer.caches.masks first.caches.masks after.caches.masks masks home.masks;
    composites = cache_turn equal_composites composite_meaning renderer.caches.composites first.caches.composites after.caches.composites composites home.composites;
  }

  pub known : AreLegal renderer.caches after.caches
  known = record {
    regions = record { first = regions.first.legal; second = regions.second.legal; third = regions.third.legal; fourth = regions.fourth.legal };
    masks = record { first = masks.first.legal; second = masks.second.legal; third = masks.third.legal; fourth = masks.fourth.legal };
    composites = record { first = composites.first.legal; second = composites.second.legal; third = composites.third.legal; fourth = composites.fourth.legal };
  }

  -- each claim was filled or failed, and what was evicted had been filled
  pub totals_balance : All IsAccounted (all_totals renderer.caches after.caches)
  totals_balance = three_balance renderer.caches after.caches known record {
    regions = λ n. (home_read.regions n).given;
    masks = λ n. (home_read.masks n).given;
    composites = λ n. (home_read.composites n).given;
  }

  -- each ask is counted
  pub totals_count_asks : HasAsks (masks_seen renderer first) (shown_totals equal_composites composite_meaning renderer.caches.composites after.caches.composites)
  totals_count_asks =
      subst (λ (n : ℕ). HasAsks n (shown_totals equal_composites composite_meaning renderer.caches.composites after.caches.composites))
      (cache_asks_same equal_composites composite_meaning renderer.caches.composites first.caches.composites after.caches.composites composites home.composites)
      (composites_count_asks renderer.caches after.caches known)

-- a new renderer's pass has seen no ask
pub no_masks_seen : (renderer : RendererView) (first : RenderView) (budget : ℕ) → IsNewRenderer renderer first budget → masks_seen renderer first ≡ 0
no_masks_seen renderer first budget new = new_asks equal_composites composite_meaning renderer.caches.composites first.caches.composites budget new.caches.composites
