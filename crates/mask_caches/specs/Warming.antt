-- Public: what warming keys adds to the three caches.
use Rattle.std.specs.Prelude.{◌≡◌, ℕ, true, false, List, ◌++◌, length, map, take, flat_map, Option, IfSome, IfNone, All}
use Rattle.std.specs.Option.{option_to_list}
use Rattle.std.specs.declared.sync.Arc.{Arc}
use Rattle.ass_num.specs.Masks.{MaskValue}
use Rattle.ass_num.specs.Regions.{RegionValue}
use Rattle.bdf_font.specs.declared.sets.FontSet.{FontSet}
use Rattle.evict_core.specs.Machine.{Step}
use Rattle.cache_kinds.specs.Kinds.{region_meaning, mask_meaning, composite_meaning}
use Rattle.mask_keys.specs.Equality.{equal_regions, equal_masks, equal_composites}
use Rattle.mask_keys.specs.declared.composite_key.CompositeKey.{CompositeKey}
use Rattle.mask_keys.specs.declared.mask_key.MaskKey.{MaskKey}
use Rattle.mask_keys.specs.declared.region_key.RegionKey.{RegionKey}
use Rattle.mask_caches.specs.Adding.{Adds}
use Rattle.mask_caches.specs.Courses.{has_value, unpin_steps}
use Rattle.mask_caches.specs.Visits.{CompositeVisit, IsCompositeVisit, composite_steps, steps_of_its_masks, steps_of_its_regions}
use Rattle.mask_caches.specs.declared.caches.Caches.{Caches}
use Rattle.mask_caches.specs.declared.passes.CachesPass.{CachesPass}

-- a key that was asked for, and how its composed mask was come by
pub record KeyVisit : Type 0 where
  pub key : CompositeKey
  pub visit : CompositeVisit

module _ {Z : Type 0} (fonts : Arc FontSet Z) where
  -- what visits add to the cache of masks and to that of regions
  abbrev pub visit_mask_steps : List KeyVisit → List (Step MaskKey MaskValue)
  visit_mask_steps visits = flat_map (λ (v : KeyVisit). steps_of_its_masks fonts v.visit) visits

  abbrev pub visit_region_steps : List KeyVisit → List (Step RegionKey RegionValue)
  visit_region_steps visits = flat_map (λ (v : KeyVisit). steps_of_its_regions fonts v.visit) visits

  -- what they add to that of composed masks where each lease is given back at once
  abbrev pub key_steps : KeyVisit → List (Step CompositeKey MaskValue)
  key_steps v = composite_steps fonts v.key v.visit ++ unpin_steps composite_meaning fonts v.key v.visit.course

  abbrev pub warming_steps : List KeyVisit → List (Step CompositeKey MaskValue)
  warming_steps visits = flat_map key_steps visits

-- The visits, each lease given back at once, added just these steps to each cache, each in the shard of its key
pub record AddsWarming (caches : Caches) (pass after : CachesPass) (visits : List KeyVisit) : Type 0 where
  pub composites : Adds equal_composites composite_meaning caches.composites pass.composites after.composites (warming_steps caches.composites.tag visits)
  pub masks : Adds equal_masks mask_meaning caches.masks pass.masks after.masks (visit_mask_steps caches.masks.tag visits)
  pub regions : Adds equal_regions region_meaning caches.regions pass.regions after.regions (visit_region_steps caches.regions.tag visits)

-- The first n of these keys were warmed, in their order. Where they aren't all, the next one was asked for, and its composed mask wasn't had
pub record AreWarmed (caches : Caches) (pass : CachesPass) (keys : List CompositeKey) (after : CachesPass) (n : ℕ) : Type 0 where
  pub warmed : List KeyVisit
  pub refused : Option KeyVisit
  pub count : length warmed ≡ n
  pub keys_are : map (λ (v : KeyVisit). v.key) (warmed ++ option_to_list refused) ≡ take (length (warmed ++ option_to_list refused)) keys
  pub each : All (λ (v : KeyVisit). IsCompositeVisit v.key v.visit) (warmed ++ option_to_list refused)
  pub had : All (λ (v : KeyVisit). has_value v.visit.course ≡ true) warmed
  pub whole : IfNone refused (n ≡ length keys)
  pub failed : IfSome refused (λ v. has_value v.visit.course ≡ false)
  pub adds : AddsWarming caches pass after (warmed ++ option_to_list refused)
