-- Public: the three caches of one thread.
use Rattle.std.specs.Prelude.{◌≡◌, ℕ, List}
use Rattle.std.specs.Arc.{arc_value}
use Rattle.std.specs.declared.alloc.Global.{Global}
use Rattle.std.specs.declared.sync.Arc.{Arc}
use Rattle.ass_num.specs.Masks.{MaskValue}
use Rattle.ass_num.specs.Regions.{RegionValue}
use Rattle.bdf_font.specs.Fonts.{FontValue}
use Rattle.bdf_font.specs.declared.sets.FontSet.{FontSet}
use Rattle.evict_core.specs.Machine.{State}
use Rattle.evict_core.specs.History.{opening}
use Rattle.mask_keys.specs.Equality.{equal_regions, equal_masks, equal_composites}
use Rattle.mask_keys.specs.declared.composite_key.CompositeKey.{CompositeKey}
use Rattle.mask_keys.specs.declared.mask_key.MaskKey.{MaskKey}
use Rattle.mask_keys.specs.declared.region_key.RegionKey.{RegionKey}
use Rattle.cache_kinds.specs.Kinds.{composite_meaning, mask_meaning, region_meaning}
use Rattle.flight_cache.specs.Meaning.{entry_cost}
use Rattle.mask_keys.specs.Outlines.{IsFontSet}
use Rattle.mask_keys.specs.Values.{composite_value, mask_value, region_value}
use Rattle.cache_kinds.specs.Limits.{entry_limit}
use Rattle.local_caches.specs.Keeping.{LocalCacheView, IsAtRest}

-- The fonts that all values are made from, the budget that each cache has, and the entries of the three.
pub record LocalCachesView : Type 0 where
  pub fonts : List FontValue
  pub budget : ℕ
  pub regions : State RegionKey RegionValue
  pub masks : State MaskKey MaskValue
  pub composites : State CompositeKey MaskValue

-- with no entries, where each cache has the whole budget
abbrev pub no_entries : List FontValue → ℕ → LocalCachesView
no_entries fonts budget = record {
  fonts = fonts;
  budget = budget;
  regions = opening (entry_limit budget) budget;
  masks = opening (entry_limit budget) budget;
  composites = opening (entry_limit budget) budget;
}

-- Each entry of each cache is ready with the value of its key, no pin holds it and none is being made; and each cache is within the budget.
pub record AreAtRest (caches : LocalCachesView) : Type 0 where
  pub regions : IsAtRest equal_regions (region_value caches.fonts) (entry_cost (region_meaning {Z = Global})) caches.regions
  pub masks : IsAtRest equal_masks (mask_value caches.fonts) (entry_cost (mask_meaning {Z = Global})) caches.masks
  pub composites : IsAtRest equal_composites (composite_value caches.fonts) (entry_cost (composite_meaning {Z = Global})) caches.composites
  pub regions_budget : caches.regions.budget ≡ caches.budget
  pub masks_budget : caches.masks.budget ≡ caches.budget
  pub composites_budget : caches.composites.budget ≡ caches.budget

-- the three caches make their values from these fonts, and have one budget
pub record AreOfOne {I J K V W Z : Type 0} (fonts : Arc FontSet Z) (regions : LocalCacheView I V (Arc FontSet Z)) (masks : LocalCacheView J W (Arc FontSet Z)) (composites : LocalCacheView K W (Arc FontSet Z)) : Type 0 where
  pub whole : IsFontSet (arc_value fonts).fonts
  pub regions_tag : regions.tag ≡ fonts
  pub masks_tag : masks.tag ≡ fonts
  pub composites_tag : composites.tag ≡ fonts
  pub masks_budget : masks.entries.budget ≡ regions.entries.budget
  pub composites_budget : composites.entries.budget ≡ regions.entries.budget
