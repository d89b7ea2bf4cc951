use Rattle.mask_blur.proofs.BlurLemmas.{same_blurred}
use Rattle.mask_keys.proofs.ValueLemmas.{blurred_is}
use Rattle.made_values.proofs.AnswerLemmas.{blurred_answer, blurred_near}
use Rattle.made_values.proofs.masks.blurred.Goals as goal

pub returns-then-radius-eq0-clause-value : goal.returns-then-radius-eq0-clause-value
returns-then-radius-eq0-clause-value c = blurred_is c.args.radius c.args.mask c.args.mask c.requires.canonical (same_blurred c.args.radius c.args.mask c.if-radius-eq0.true)

pub returns-clause-value : goal.returns-clause-value
returns-clause-value c = blurred_answer c.box_blur.result c.from.result c.args.radius c.args.mask c.from.ensures c.box_blur.ensures.blurred c.box_blur.ensures.canonical

pub returns-clause-within : goal.returns-clause-within
returns-clause-within c = blurred_near c.box_blur.result c.from.result c.args.radius c.args.mask c.from.ensures c.box_blur.ensures.within
