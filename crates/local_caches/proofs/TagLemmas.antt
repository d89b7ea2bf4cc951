-- The values of keys under the fonts that a cache is tagged with.
use Rattle.std.proofs.Common.{◌≡◌, ap}
use Rattle.std.specs.Arc.{arc_value}
use Rattle.std.specs.declared.sync.Arc.{Arc}
use Rattle.bdf_font.specs.declared.sets.FontSet.{FontSet}
use Rattle.mask_keys.specs.declared.composite_key.CompositeKey.{CompositeKey}
use Rattle.mask_keys.specs.declared.mask_key.MaskKey.{MaskKey}
use Rattle.mask_keys.specs.declared.region_key.RegionKey.{RegionKey}
use Rattle.mask_keys.specs.Values.{composite_value, mask_value, region_value}

module _ {Z : Type 0} (tag fonts : Arc FontSet Z) (same : tag ≡ fonts) where
  pub region-tagged : (key : RegionKey) → region_value (arc_value tag).fonts key ≡ region_value (arc_value fonts).fonts key
  region-tagged key = ap (λ (set : Arc FontSet Z). region_value (arc_value set).fonts key) same

  pub mask-tagged : (key : MaskKey) → mask_value (arc_value tag).fonts key ≡ mask_value (arc_value fonts).fonts key
  mask-tagged key = ap (λ (set : Arc FontSet Z). mask_value (arc_value set).fonts key) same

  pub composite-tagged : (key : CompositeKey) → composite_value (arc_value tag).fonts key ≡ composite_value (arc_value fonts).fonts key
  composite-tagged key = ap (λ (set : Arc FontSet Z). composite_value (arc_value set).fonts key) same
