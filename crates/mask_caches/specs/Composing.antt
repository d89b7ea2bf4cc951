-- Public: what a call that gets a composed mask gives.
use Rattle.std.specs.Prelude.{◌≡◌, Result}
use Rattle.std.specs.declared.alloc.Global.{Global}
use Rattle.std.specs.declared.sync.Arc.{Arc}
use Rattle.ass_num.specs.Masks.{MaskValue}
use Rattle.bdf_font.specs.declared.sets.FontSet.{FontSet}
use Rattle.flight_cache.specs.Shards.{CachePassView}
use Rattle.cache_kinds.specs.Kinds.{region_meaning, mask_meaning, composite_meaning}
use Rattle.mask_keys.specs.Equality.{equal_regions, equal_masks, equal_composites}
use Rattle.mask_keys.specs.declared.composite_key.CompositeKey.{CompositeKey}
use Rattle.mask_keys.specs.declared.mask_key.MaskKey.{MaskKey}
use Rattle.mask_keys.specs.declared.region_key.RegionKey.{RegionKey}
use Rattle.mask_caches.specs.Adding.{Adds, HoldsAsMuch}
use Rattle.mask_caches.specs.Courses.{Unasked, IsHadBy, IsUnasked, HoldsTheLease}
use Rattle.mask_caches.specs.Visits.{CompositeVisit, IsCompositeVisit, composite_steps, steps_of_its_masks, steps_of_its_regions}
use Rattle.mask_caches.specs.declared.caches.Caches.{Caches}
use Rattle.mask_caches.specs.declared.lease.Lease.{Lease}

-- the passes of the three caches
pub record ThreePasses (T : Type 0) : Type 0 where
  pub regions : CachePassView RegionKey T
  pub masks : CachePassView MaskKey T
  pub composites : CachePassView CompositeKey T

module _ {M E : Type 0} (caches : Caches) (pass : ThreePasses (Arc FontSet Global)) (key : CompositeKey) (after : ThreePasses (Arc FontSet Global)) (had : Result (Lease M CompositeKey MaskValue (Arc FontSet Global)) E) where
  -- A visit of the key tells what the call adds to each cache: just these steps, each in the shard of its key. It also tells what is had of the value, and where the ask itself found no memory
  pub record IsComposed : Type 0 where
    pub visit : CompositeVisit
    pub is_visit : IsCompositeVisit key visit
    pub composites : Adds equal_composites composite_meaning caches.composites pass.composites after.composites (composite_steps caches.composites.tag key visit)
    pub masks : Adds equal_masks mask_meaning caches.masks pass.masks after.masks (steps_of_its_masks caches.masks.tag visit)
    pub regions : Adds equal_regions region_meaning caches.regions pass.regions after.regions (steps_of_its_regions caches.regions.tag visit)
    pub had_by : IsHadBy composite_meaning caches.composites.tag key visit.course had
    pub short : visit.course ≡ Unasked → IsUnasked equal_composites composite_meaning caches.composites pass.composites key after.composites

  -- The pass holds just the lease's pin more in the cache of composed masks, in the other two what it held before, and has open what it had before
  pub record HoldsJustTheLease : Type 0 where
    pub composites : HoldsTheLease equal_composites composite_meaning caches.composites pass.composites after.composites had
    pub masks : HoldsAsMuch equal_masks mask_meaning caches.masks pass.masks after.masks
    pub regions : HoldsAsMuch equal_regions region_meaning caches.regions pass.regions after.regions
