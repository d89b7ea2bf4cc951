use Rattle.mask_keys.specs.Outlines.{rings_of}
use Rattle.made_values.proofs.AnswerLemmas.{outline_answer, region_near}
use Rattle.made_values.proofs.outlines.made_outline.Goals as goal

pub returns-clause-value : goal.returns-clause-value
returns-clause-value c =
    outline_answer c.region_of.result c.in_ok-outline.outline.rings (rings_of c.args.fonts.now.fonts c.args.key.now)
    c.in_ok-outline.ensures.winding c.region_of.ensures.samples c.region_of.ensures.canonical c.region_of.ensures.within

pub returns-clause-within : goal.returns-clause-within
returns-clause-within c = region_near c.region_of.result c.region_of.ensures.within
