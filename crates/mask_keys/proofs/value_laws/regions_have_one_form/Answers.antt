use Rattle.ass_num.specs.Limits.{max_sample}
use Rattle.ass_num.specs.Regions.{member}
use Rattle.ass_num.specs.Winding.{inside}
use Rattle.region_rows.specs.Widened.{in_widened}
use Rattle.mask_keys.specs.Outlines.{rings_of}
use Rattle.sample_region.specs.Limits.{max_inside}
use Rattle.mask_keys.specs.Values.{outline_value}
use Rattle.mask_keys.proofs.RegionLemmas.{region_within-canonical, region_within-limit}
use Rattle.mask_keys.proofs.value_laws.regions_have_one_form.Goals as goal

pub returns-clause-outline : goal.returns-clause-outline
returns-clause-outline c = λ fonts key. region_within-canonical max_inside (inside (rings_of fonts key))

pub returns-clause-near : goal.returns-clause-near
returns-clause-near c = λ fonts key. region_within-limit max_inside (inside (rings_of fonts key))

pub returns-clause-region : goal.returns-clause-region
returns-clause-region c = λ fonts key.
    region_within-canonical max_sample (in_widened (member (outline_value fonts key.outline).top (outline_value fonts key.outline).rows) key.rx key.ry)

pub returns-clause-within : goal.returns-clause-within
returns-clause-within c = λ fonts key.
    region_within-limit max_sample (in_widened (member (outline_value fonts key.outline).top (outline_value fonts key.outline).rows) key.rx key.ry)
