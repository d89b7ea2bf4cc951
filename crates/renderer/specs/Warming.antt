-- Public: what a call that warms the caches ahead of time asks for.
use Rattle.std.specs.Prelude.{◌≡◌, ℕ, ◌+◌, ◌<◌, ℤ, List, [], ◌∷◌, length, flat_map, Option, Result, Ok, Err}
use Rattle.ass_events.specs.Histories.{live}
use Rattle.ass_num.specs.declared.size.Size.{Size}
use Rattle.cache_kinds.specs.Kinds.{composite_meaning}
use Rattle.flight_cache.specs.Budgets.{shown_budgets}
use Rattle.flight_cache.specs.Shards.{EachGives}
use Rattle.mask_caches.specs.Caches.{IsSamePass}
use Rattle.mask_caches.specs.Keeping.{unkept_in}
use Rattle.mask_caches.specs.declared.passes.CachesPass.{CachesPass}
use Rattle.mask_caches.specs.declared.warming.Prefetched.{Prefetched}
use Rattle.mask_keys.specs.Equality.{equal_composites}
use Rattle.mask_keys.specs.declared.composite_key.CompositeKey.{CompositeKey}
use Rattle.mask_keys.specs.declared.plans.Draw.{Draw}
use Rattle.frame_view.specs.FrameViews.{plain_frame}
use Rattle.picture_plan.specs.Pictures.{AreDraws}
use Rattle.track_history.specs.Calls.{history_of}
use Rattle.track_history.specs.declared.answers.TrackEntry.{TrackEntry}
use Rattle.turn_cell.specs.History.{History, IsPrefix}
use Rattle.turn_cell.specs.Passes.{Follows}
use Rattle.mask_keys.specs.PlanKeys.{plan_keys}
use Rattle.mask_caches.specs.Firsts.{firsts}
use Rattle.mask_caches.specs.Warming.{AreWarmed}
use Rattle.renderer.specs.Passes.{RenderView, RendererView}

-- the keys of plans, plan by plan and draw by draw, each where it stands first
abbrev pub keys_ahead : List (List Draw) → List CompositeKey
keys_ahead plans = firsts equal_composites (flat_map plan_keys plans)

-- The plans are the draws at the instants, in their order. Each is of all that a look showed, which begins with what the look before showed, and the last look showed `last`.
pub data ArePlansSeen (renderer : RendererView) (size : Size) : History TrackEntry → List ℤ → List (List Draw) → History TrackEntry → Type 0 where
  None : (seen : History TrackEntry) → ArePlansSeen renderer size seen [] [] seen
  Next : (seen shown last : History TrackEntry) (t : ℤ) (later : List ℤ) (plan : List Draw) (plans : List (List Draw))
      → IsPrefix seen shown → AreDraws renderer.script renderer.fonts (live (history_of shown)) t (plain_frame size) plan
      → ArePlansSeen renderer size shown later plans last → ArePlansSeen renderer size seen (t ∷ later) (plan ∷ plans) last

module _ (renderer : RendererView) (pass after : RenderView) (instants : List ℤ) (size : Size) where
  -- The track was looked at once for each instant, which gave these plans, and the first n of their keys were warmed
  pub record IsWarmedTo (plans : List (List Draw)) (n : ℕ) : Type 0 where
    pub track : Follows pass.track after.track []
    pub turns : after.track.turns ≡ pass.track.turns + length instants
    pub are_plans : ArePlansSeen renderer size pass.track.seen instants plans after.track.seen
    pub warmed : AreWarmed renderer.caches pass.caches (keys_ahead plans) after.caches n

  -- Memory was wanting before the plans of all instants were there, and no key was asked for
  pub record IsUnplanned : Type 0 where
    pub track : Follows pass.track after.track []
    pub caches : IsSamePass pass.caches after.caches

  -- so it was, or one of the keys was refused
  pub data IsColdAt : Type 0 where
    Unplanned : IsUnplanned → IsColdAt
    Refused : (plans : List (List Draw)) (n : ℕ) → n < length (keys_ahead plans) → IsWarmedTo plans n → IsColdAt

  -- Turns of the shards showed their budgets, and the place is that of the first key whose composed mask can't be kept by them
  pub record TellsUnkept (plans : List (List Draw)) (unkept : Option ℕ) : Type 0 where
    pub begun : CachesPass
    pub looked : EachGives equal_composites composite_meaning renderer.caches.composites.shards pass.caches.composites begun.composites (λ n. [])
    pub unkept_is : unkept ≡ unkept_in renderer.caches.composites.tag (shown_budgets equal_composites composite_meaning renderer.caches.composites begun.composites) (keys_ahead plans)

  -- the number is that of the keys, all of which were warmed
  abbrev pub IsWarmed : {E : Type 0} → Result Prefetched E → Type 0
  IsWarmed (Ok w) = (plans : List (List Draw)) × (w.count ≡ length (keys_ahead plans)) × IsWarmedTo plans w.count × TellsUnkept plans w.unkept
  IsWarmed (Err refused) = IsColdAt
