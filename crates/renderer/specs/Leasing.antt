-- Public: what a call asks for that leases the composed masks of several keys, and the steps of that in each of the three caches.
use Rattle.std.specs.Prelude.{◌≡◌, ◌-◌, true, List, [], ◌∷◌, ◌++◌, length, map, take, reverse, flat_map, All}
use Rattle.std.specs.declared.alloc.Global.{Global}
use Rattle.std.specs.declared.sync.Arc.{Arc}
use Rattle.ass_num.specs.Masks.{MaskValue}
use Rattle.bdf_font.specs.declared.sets.FontSet.{FontSet}
use Rattle.cache_kinds.specs.Kinds.{composite_meaning, mask_meaning, region_meaning}
use Rattle.evict_core.specs.Machine.{Step}
use Rattle.mask_caches.specs.Adding.{Adds}
use Rattle.mask_caches.specs.Caches.{HoldsAsBefore, IsPassOf}
use Rattle.mask_caches.specs.Courses.{IsLeaseOf, has_value, unpin_steps}
use Rattle.mask_caches.specs.Visits.{IsCompositeVisit, composite_steps}
use Rattle.mask_caches.specs.declared.caches.Caches.{Caches}
use Rattle.mask_caches.specs.declared.passes.CachesPass.{CachesPass}
use Rattle.mask_keys.specs.Equality.{equal_composites, equal_masks, equal_regions}
use Rattle.mask_keys.specs.declared.composite_key.CompositeKey.{CompositeKey}
use Rattle.mask_caches.specs.Warming.{KeyVisit, visit_mask_steps, visit_region_steps}
use Rattle.renderer.specs.ShownFrames.{MaskLease}
use Rattle.renderer.specs.Holding.{HoldsLeasesMore, AreHome}

-- the keys in their order, all or the first of them, where the mask of each but the last was had
pub record AreKeyVisits (keys : List CompositeKey) (visits : List KeyVisit) : Type 0 where
  pub keys_are : map (λ (v : KeyVisit). v.key) visits ≡ take (length visits) keys
  pub each : All (λ (v : KeyVisit). IsCompositeVisit v.key v.visit) visits
  pub had : All (λ (v : KeyVisit). has_value v.visit.course ≡ true) (take (length visits - 1) visits)

-- the mask of each key was had
pub record AreAllLeased (keys : List CompositeKey) (visits : List KeyVisit) : Type 0 where
  pub are : AreKeyVisits keys visits
  pub as_many : length visits ≡ length keys
  pub had : All (λ (v : KeyVisit). has_value v.visit.course ≡ true) visits

module _ {Z : Type 0} (fonts : Arc FontSet Z) where
  -- what the visits add to the cache of composed masks
  abbrev pub visit_steps : List KeyVisit → List (Step CompositeKey MaskValue)
  visit_steps visits = flat_map (λ (v : KeyVisit). composite_steps fonts v.key v.visit) visits

  -- the steps of giving back what the visits had, the last one first
  abbrev pub visit_unpins : List KeyVisit → List (Step CompositeKey MaskValue)
  visit_unpins visits = flat_map (λ (v : KeyVisit). unpin_steps composite_meaning fonts v.key v.visit.course) (reverse visits)

-- Calls in a row added just these steps to the three caches: those of the visits, and behind them these of the cache of composed masks.
pub record AddsVisits (caches : Caches) (pass after : CachesPass) (visits : List KeyVisit) (given : List (Step CompositeKey MaskValue)) : Type 0 where
  pub composites : Adds equal_composites composite_meaning caches.composites pass.composites after.composites (visit_steps caches.composites.tag visits ++ given)
  pub masks : Adds equal_masks mask_meaning caches.masks pass.masks after.masks (visit_mask_steps caches.masks.tag visits)
  pub regions : Adds equal_regions region_meaning caches.regions pass.regions after.regions (visit_region_steps caches.regions.tag visits)

-- The leases are what was had of the keys, in their order: a pin of the key's composed mask, or where the cache had no room the mask itself.
abbrev pub AreLeasesBy : Arc FontSet Global → List KeyVisit → List MaskLease → Type 0
AreLeasesBy fonts [] [] = Unit {0}
AreLeasesBy fonts [] (lease ∷ leases) = ⊥
AreLeasesBy fonts (v ∷ visits) [] = ⊥
AreLeasesBy fonts (v ∷ visits) (lease ∷ leases) = IsLeaseOf composite_meaning fonts v.key v.visit.course lease × AreLeasesBy fonts visits leases

module _ (caches : Caches) (pass after : CachesPass) (keys : List CompositeKey) where
  -- Calls in a row asked for each of the keys once, in their order. The leases are what was had of them, and nothing else was added.
  pub record AreLeased (leases : List MaskLease) : Type 0 where
    pub visits : List KeyVisit
    pub all : AreAllLeased keys visits
    pub adds : AddsVisits caches pass after visits []
    pub are : AreLeasesBy caches.composites.tag visits leases

  -- Memory was wanting. What was asked for begins the keys, and what was had of them was given back.
  pub record AreUnleased : Type 0 where
    pub visits : List KeyVisit
    pub are_visits : AreKeyVisits keys visits
    pub adds : AddsVisits caches pass after visits (visit_unpins caches.composites.tag visits)

-- the leases are what calls in a row had of the keys, the pass holds just their pins more, and these are of the cache
pub record IsLent (caches : Caches) (pass after : CachesPass) (keys : List CompositeKey) (leases : List MaskLease) : Type 0 where
  pub of : IsPassOf caches after
  pub leased : AreLeased caches pass after keys leases
  pub holds : HoldsLeasesMore caches pass after leases
  pub homes : AreHome caches leases

-- memory ran out, and the pass holds what it held before
pub record IsUnlent (caches : Caches) (pass after : CachesPass) (keys : List CompositeKey) : Type 0 where
  pub of : IsPassOf caches after
  pub unleased : AreUnleased caches pass after keys
  pub holds : HoldsAsBefore caches pass after
