use Rattle.mask_blur.proofs.SoftenedLemmas.{same_softened}
use Rattle.mask_keys.proofs.ValueLemmas.{softened_is}
use Rattle.made_values.proofs.AnswerLemmas.{softened_answer, softened_near}
use Rattle.made_values.proofs.masks.softened.Goals as goal

pub returns-then-passes-eq0-clause-value : goal.returns-then-passes-eq0-clause-value
returns-then-passes-eq0-clause-value c = softened_is c.args.passes c.args.mask c.args.mask c.requires.canonical (same_softened c.args.passes c.args.mask c.if-passes-eq0.true)

pub returns-clause-value : goal.returns-clause-value
returns-clause-value c = softened_answer c.soften.result c.from.result c.args.passes c.args.mask c.from.ensures c.soften.ensures.softened c.soften.ensures.canonical

pub returns-clause-within : goal.returns-clause-within
returns-clause-within c = softened_near c.soften.result c.from.result c.args.passes c.args.mask c.from.ensures c.soften.ensures.within
