use Rattle.std.proofs.Common.{arith}
use Rattle.std.proofs.lemmas.Grind.{common_steps}
use Rattle.text_layout.proofs.ScaleLemmas.{framed_within}
use Rattle.text_layout.proofs.scales.framed.Goals as goal

pub returns-clause-value : goal.returns-clause-value
returns-clause-value c = grind (arith, common_steps)

pub returns-clause-within : goal.returns-clause-within
returns-clause-within c = rw (returns-clause-value c) (framed_within c.args.length c.args.side c.args.res c.requires.length c.requires.side c.requires.res)
