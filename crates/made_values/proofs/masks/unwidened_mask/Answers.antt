use Rattle.mask_keys.specs.Regions.{widened_region}
use Rattle.mask_keys.proofs.WidenedLemmas.{widened_by_nothing}
use Rattle.made_values.proofs.AnswerLemmas.{same_region}
use Rattle.made_values.proofs.masks.unwidened_mask.Goals as goal

pub returns-clause-value : goal.returns-clause-value
returns-clause-value c =
    same_region c.mask_of_region.result c.args.key.now c.args.region.now (widened_region 0 0 c.args.region.now)
    (widened_by_nothing c.args.region.now c.rows-rows.ensures.canonical c.requires.region) c.mask_of_region.ensures.value
