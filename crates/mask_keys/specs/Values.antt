-- Public: the value of a key: the region, the mask or the composed mask that is made of it.
use Rattle.std.specs.Prelude.{ℤ, List, map}
use Rattle.ass_num.specs.Masks.{MaskValue}
use Rattle.ass_num.specs.Regions.{RegionValue}
use Rattle.bdf_font.specs.Fonts.{FontValue}
use Rattle.mask_keys.specs.Keys.{region_key}
use Rattle.mask_keys.specs.declared.composite_key.CompositeKey.{CompositeKey}
use Rattle.mask_keys.specs.declared.composite_key.Part.{Part}
use Rattle.mask_keys.specs.declared.mask_key.MaskKey.{MaskKey}
use Rattle.mask_keys.specs.declared.outline_key.OutlineKey.{OutlineKey}
use Rattle.mask_keys.specs.declared.region_key.RegionKey.{RegionKey}
use Rattle.mask_keys.specs.Masks.{covered_mask, softened_mask, blurred_mask, summed_mask}
use Rattle.mask_keys.specs.Outlines.{rings_of}
use Rattle.mask_keys.specs.Regions.{outline_region, widened_region}

-- the region of an outline's key
abbrev pub outline_value : List FontValue → OutlineKey → RegionValue
outline_value fonts key = outline_region (rings_of fonts key)

-- The region of a key: that of its outline, widened by its radii.
abbrev pub region_value : List FontValue → RegionKey → RegionValue
region_value fonts key = widened_region key.rx key.ry (outline_value fonts key.outline)

-- the mask that a key makes of the region of its outline, widened already: the coverage at its phase, softened, and then blurred
abbrev pub mask_of_region : MaskKey → RegionValue → MaskValue
mask_of_region key r = blurred_mask key.blur (softened_mask key.edges (covered_mask key.px key.py r))

-- The mask of a key.
abbrev pub mask_value : List FontValue → MaskKey → MaskValue
mask_value fonts key = mask_of_region key (region_value fonts (region_key key))

-- a part's mask and its offset
abbrev pub placed_part : List FontValue → Part → MaskValue × ℤ × ℤ
placed_part fonts part = (mask_value fonts part.mask, part.dx, part.dy)

-- The composed mask of a key: the sum of its parts' masks.
abbrev pub composite_value : List FontValue → CompositeKey → MaskValue
composite_value fonts key = summed_mask (map (placed_part fonts) key.parts)
