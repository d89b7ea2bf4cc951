-- Public: what regions and masks are, in the words of samples and coverage.
use Rattle.std.specs.Prelude.{◌≡◌, ℤ, List}
use Rattle.ass_num.specs.Regions.{RegionValue, member}
use Rattle.ass_num.specs.Winding.{inside}
use Rattle.bdf_font.specs.Fonts.{FontValue}
use Rattle.mask_keys.specs.declared.region_key.RegionKey.{RegionKey}
use Rattle.mask_keys.specs.Outlines.{rings_of}
use Rattle.region_rows.specs.Widened.{in_widened}

-- The region has just the samples with one inside the outline within the ellipse of the radii around them.
abbrev pub HasItsSamples : List FontValue → RegionKey → RegionValue → Type 0
HasItsSamples fonts key r = (i j : ℤ) → member r.top r.rows i j ≡ in_widened (inside (rings_of fonts key.outline)) key.rx key.ry i j
