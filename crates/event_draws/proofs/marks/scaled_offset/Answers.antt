use Rattle.std.proofs.Common.{rules}
use Rattle.event_draws.proofs.ShiftBounds.{shift_within}
use Rattle.event_draws.proofs.marks.scaled_offset.Goals as goal

pub returns-clause-value : goal.returns-clause-value
returns-clause-value c = search rules

pub returns-clause-within : goal.returns-clause-within
returns-clause-within c = rw (returns-clause-value c) (shift_within c.args.state.now c.args.uy c.requires.offset c.requires.scale)
