-- Public: what a call asks for to make a value, level by level, and the steps of that in each of the three caches.
use Rattle.std.specs.Prelude.{◌≡◌, ◌-◌, true, ◌&&◌, if◌then◌else◌, List, [], ◌++◌, length, map, take, reverse, flat_map, All}
use Rattle.std.specs.declared.sync.Arc.{Arc}
use Rattle.bdf_font.specs.declared.sets.FontSet.{FontSet}
use Rattle.ass_num.specs.Masks.{MaskValue}
use Rattle.ass_num.specs.Regions.{RegionValue}
use Rattle.evict_core.specs.Machine.{Step}
use Rattle.cache_kinds.specs.Kinds.{region_meaning, mask_meaning, composite_meaning, is_widened}
use Rattle.flight_cache.specs.Shards.{CachePassView, CacheView}
use Rattle.mask_keys.specs.Equality.{equal_regions}
use Rattle.mask_keys.specs.Keys.{region_key, unwidened}
use Rattle.mask_keys.specs.declared.composite_key.CompositeKey.{CompositeKey}
use Rattle.mask_keys.specs.declared.composite_key.Part.{Part}
use Rattle.mask_keys.specs.declared.mask_key.MaskKey.{MaskKey}
use Rattle.mask_keys.specs.declared.region_key.RegionKey.{RegionKey}
use Rattle.mask_caches.specs.Adding.{is_open}
use Rattle.mask_caches.specs.Courses.{Course, has_value, is_made, course_steps, unpin_steps, use_steps}

-- a region: how it was come by, and how its outline was, if it was made by widening that
pub record RegionVisit : Type 0 where
  pub course : Course
  pub outline : Course

-- a mask: its key, how it was come by, and how its region was, if it was made
pub record MaskVisit : Type 0 where
  pub key : MaskKey
  pub course : Course
  pub region : RegionVisit

-- a composed mask: how it was come by, and how the masks were that it was made from
pub record CompositeVisit : Type 0 where
  pub course : Course
  pub masks : List MaskVisit

-- The pass may wait for an outline: it has no claim open but of widened regions.
abbrev pub HasWidenedOpen : {Z : Type 0} → CacheView (Arc FontSet Z) → CachePassView RegionKey (Arc FontSet Z) → Type 0
HasWidenedOpen cache pass = (key : RegionKey) → is_open equal_regions region_meaning cache pass key ≡ true → is_widened key ≡ true

-- a widened region that was made and had its value had its outline
pub record IsRegionVisit (key : RegionKey) (visit : RegionVisit) : Type 0 where
  pub outline : is_widened key && is_made visit.course ≡ true → has_value visit.course ≡ true → has_value visit.outline ≡ true

-- so it is with a mask and its region
pub record IsMaskVisit (visit : MaskVisit) : Type 0 where
  pub region : is_made visit.course ≡ true → IsRegionVisit (region_key visit.key) visit.region
  pub had : is_made visit.course ≡ true → has_value visit.course ≡ true → has_value visit.region.course ≡ true

-- the masks of the parts' keys in their order, all or as far as each but the last was had
pub record AreMaskVisits (parts : List Part) (visits : List MaskVisit) : Type 0 where
  pub keys : map (λ v. v.key) visits ≡ take (length visits) (map (λ p. p.mask) parts)
  pub each : All IsMaskVisit visits
  pub had : All (λ v. has_value v.course ≡ true) (take (length visits - 1) visits)

-- the masks of a composed mask that was made; all of them were had where it was
pub record IsCompositeVisit (key : CompositeKey) (visit : CompositeVisit) : Type 0 where
  pub masks : is_made visit.course ≡ true → AreMaskVisits key.parts visit.masks
  pub all : is_made visit.course ≡ true → has_value visit.course ≡ true → length visit.masks ≡ length key.parts
  pub had : is_made visit.course ≡ true → has_value visit.course ≡ true → All (λ v. has_value v.course ≡ true) visit.masks

module _ {Z : Type 0} (fonts : Arc FontSet Z) where
  -- the use of the region that it is widened from, if it is
  abbrev pub widening_steps : RegionKey → RegionVisit → List (Step RegionKey RegionValue)
  widening_steps key visit = if is_widened key then use_steps region_meaning fonts (unwidened key) visit.outline [] else []

  -- what a region adds to the cache of regions
  abbrev pub region_steps : RegionKey → RegionVisit → List (Step RegionKey RegionValue)
  region_steps key visit = course_steps region_meaning fonts key visit.course (widening_steps key visit)

  -- and one whose pin is given back
  abbrev pub region_use_steps : RegionKey → RegionVisit → List (Step RegionKey RegionValue)
  region_use_steps key visit = region_steps key visit ++ unpin_steps region_meaning fonts key visit.course

  -- what a mask adds to it
  abbrev pub steps_of_its_region : MaskVisit → List (Step RegionKey RegionValue)
  steps_of_its_region visit = if is_made visit.course then region_use_steps (region_key visit.key) visit.region else []

  -- what the masks of parts add to the cache of regions
  abbrev pub region_steps_of : List MaskVisit → List (Step RegionKey RegionValue)
  region_steps_of visits = flat_map steps_of_its_region visits

  -- and to that of masks, in which their pins are given back at the end, the last one first
  abbrev pub mask_steps : MaskVisit → List (Step MaskKey MaskValue)
  mask_steps visit = course_steps mask_meaning fonts visit.key visit.course []

  abbrev pub mask_unpins : MaskVisit → List (Step MaskKey MaskValue)
  mask_unpins visit = unpin_steps mask_meaning fonts visit.key visit.course

  abbrev pub mask_steps_of : List MaskVisit → List (Step MaskKey MaskValue)
  mask_steps_of visits = flat_map mask_steps visits ++ flat_map mask_unpins (reverse visits)

  -- what a composed mask adds to each cache
  abbrev pub composite_steps : CompositeKey → CompositeVisit → List (Step CompositeKey MaskValue)
  composite_steps key visit = course_steps composite_meaning fonts key visit.course []

  abbrev pub steps_of_its_masks : CompositeVisit → List (Step MaskKey MaskValue)
  steps_of_its_masks visit = if is_made visit.course then mask_steps_of visit.masks else []

  abbrev pub steps_of_its_regions : CompositeVisit → List (Step RegionKey RegionValue)
  steps_of_its_regions visit = if is_made visit.course then region_steps_of visit.masks else []
