use Rattle.ass_num.specs.Limits.{max_sample}
use Rattle.ass_num.specs.Regions.{RegionValue, member}
use Rattle.region_rows.specs.Widened.{in_widened}
use Rattle.mask_keys.proofs.RegionLemmas.{answer_is}
use Rattle.made_values.proofs.AnswerLemmas.{border_near}
use Rattle.made_values.proofs.regions.made_border.Goals as goal

pub returns-clause-within : goal.returns-clause-within
returns-clause-within c = border_near c.widened.result c.args.region.now c.args.rx c.args.ry c.requires.rx c.requires.ry c.requires.within c.widened.ensures.within

pub returns-clause-value : goal.returns-clause-value
returns-clause-value c =
    let region : RegionValue = c.args.region.now in
    answer_is c.widened.result max_sample (in_widened (member region.top region.rows) c.args.rx c.args.ry) c.widened.ensures.samples c.widened.ensures.canonical (returns-clause-within c)
