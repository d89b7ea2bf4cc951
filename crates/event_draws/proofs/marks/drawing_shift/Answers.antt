use Rattle.std.proofs.Common.{arith}
use Rattle.std.proofs.lemmas.Grind.{common_steps}
use Rattle.event_draws.proofs.ShiftBounds.{shift_within}
use Rattle.event_draws.proofs.marks.drawing_shift.Goals as goal

pub returns-clause-value : goal.returns-clause-value
returns-clause-value c = grind (arith, common_steps)

pub returns-clause-within : goal.returns-clause-within
returns-clause-within c = rw (returns-clause-value c) (shift_within c.args.state.now c.args.uy c.requires.offset c.requires.scale)
