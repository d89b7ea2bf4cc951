-- Where the regions of keys lie; and one that isn't widened is that of its outline.
use Rattle.std.proofs.Common.{◌≡◌, List}
use Rattle.ass_num.specs.Limits.{IsRegionWithin, max_sample}
use Rattle.ass_num.specs.Regions.{member}
use Rattle.ass_num.specs.Winding.{inside}
use Rattle.bdf_font.specs.Fonts.{FontValue}
use Rattle.region_rows.specs.Widened.{in_widened}
use Rattle.sample_region.specs.Limits.{max_inside}
use Rattle.mask_keys.specs.Outlines.{rings_of}
use Rattle.mask_keys.specs.Regions.{widened_region}
use Rattle.mask_keys.specs.Values.{outline_value, region_value}
use Rattle.mask_keys.specs.declared.outline_key.OutlineKey.{OutlineKey}
use Rattle.mask_keys.specs.declared.region_key.RegionKey.{RegionKey}
use Rattle.mask_keys.proofs.RegionLemmas.{region_within-canonical, region_within-limit}
use Rattle.mask_keys.proofs.WidenedLemmas.{widened_by_nothing}

pub outline-near : (fonts : List FontValue) (key : OutlineKey) → IsRegionWithin max_inside (outline_value fonts key).top (outline_value fonts key).rows
outline-near fonts key = region_within-limit max_inside (inside (rings_of fonts key))

pub outline-unwidened : (fonts : List FontValue) (key : OutlineKey) → outline_value fonts key ≡ widened_region 0 0 (outline_value fonts key)
outline-unwidened fonts key = widened_by_nothing (outline_value fonts key) (region_within-canonical max_inside (inside (rings_of fonts key))) (outline-near fonts key)

pub region-near : (fonts : List FontValue) (key : RegionKey) → IsRegionWithin max_sample (region_value fonts key).top (region_value fonts key).rows
region-near fonts key = region_within-limit max_sample (in_widened (member (outline_value fonts key.outline).top (outline_value fonts key.outline).rows) key.rx key.ry)
