use Rattle.ass_num.specs.Limits.{max_sample}
use Rattle.ass_num.specs.Regions.{member}
use Rattle.region_rows.specs.Widened.{in_widened}
use Rattle.mask_keys.specs.Keys.{region_key}
use Rattle.mask_keys.specs.Values.{outline_value, region_value}
use Rattle.mask_keys.proofs.CoverLemmas.{covered_mask-covers}
use Rattle.mask_keys.proofs.RegionLemmas.{region_within-limit}
use Rattle.mask_keys.proofs.value_laws.masks_cover_their_samples.Goals as goal

pub returns : goal.returns
returns c = λ fonts key ranges.
    covered_mask-covers (region_value fonts (region_key key)) key.px key.py ranges.px ranges.py
    (region_within-limit max_sample (in_widened (member (outline_value fonts key.outline).top (outline_value fonts key.outline).rows) key.rx key.ry))
