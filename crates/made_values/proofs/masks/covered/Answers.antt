use Rattle.made_values.proofs.AnswerLemmas.{covered_answer, covered_near}
use Rattle.made_values.proofs.masks.covered.Goals as goal

pub returns-clause-value : goal.returns-clause-value
returns-clause-value c = covered_answer c.cover.result c.args.region.now c.args.px c.args.py c.requires.region c.cover.ensures.mask c.cover.ensures.canonical c.cover.ensures.within

pub returns-clause-within : goal.returns-clause-within
returns-clause-within c = covered_near c.cover.result c.args.region.now c.requires.region c.cover.ensures.within
