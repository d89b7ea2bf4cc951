-- Public: what the keys of the three caches mean: the value of each under the fonts, what it costs, its numbers, and its rank.
use Rattle.std.specs.Prelude.{ℕ, ◌==◌, ◌&&◌, not, if◌then◌else◌, Bool}
use Rattle.std.specs.Arc.{arc_value}
use Rattle.std.specs.declared.sync.Arc.{Arc}
use Rattle.ass_num.specs.Masks.{MaskValue}
use Rattle.ass_num.specs.Regions.{RegionValue}
use Rattle.bdf_font.specs.declared.sets.FontSet.{FontSet}
use Rattle.flight_cache.specs.Meaning.{Meaning}
use Rattle.mask_keys.specs.declared.composite_key.CompositeKey.{CompositeKey}
use Rattle.mask_keys.specs.declared.mask_key.MaskKey.{MaskKey}
use Rattle.mask_keys.specs.declared.region_key.RegionKey.{RegionKey}
use Rattle.mask_keys.specs.Costs.{mask_cost, region_cost}
use Rattle.mask_keys.specs.Numbers.{composite_numbers, mask_numbers, region_numbers}
use Rattle.mask_keys.specs.Values.{composite_value, mask_value, region_value}

-- the region is widened
abbrev pub is_widened : RegionKey → Bool
is_widened key = not ((key.rx == 0) && (key.ry == 0))

-- a widened region is made of one that isn't, so whoever makes the first may wait for the second
abbrev pub region_rank : RegionKey → ℕ
region_rank key = if is_widened key then 0 else 1

-- of the regions of outlines, widened or not
abbrev pub region_meaning : {Z : Type 0} → Meaning RegionKey RegionValue (Arc FontSet Z)
region_meaning = record { made = λ set key. region_value (arc_value set).fonts key; cost = region_cost; numbers = region_numbers; rank = region_rank }

-- of masks
abbrev pub mask_meaning : {Z : Type 0} → Meaning MaskKey MaskValue (Arc FontSet Z)
mask_meaning = record { made = λ set key. mask_value (arc_value set).fonts key; cost = mask_cost; numbers = mask_numbers; rank = λ key. 0 }

-- of composed masks
abbrev pub composite_meaning : {Z : Type 0} → Meaning CompositeKey MaskValue (Arc FontSet Z)
composite_meaning = record { made = λ set key. composite_value (arc_value set).fonts key; cost = mask_cost; numbers = composite_numbers; rank = λ key. 0 }
