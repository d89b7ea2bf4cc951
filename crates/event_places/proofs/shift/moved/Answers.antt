use Rattle.std.proofs.Common.{arith}
use Rattle.std.proofs.lemmas.Int.{ints, to_z-of_z}
use Rattle.event_places.proofs.shift.moved.Goals as goal

pub returns-then-down : goal.returns-then-down
returns-then-down c = rw c.if-down.true (grind (arith, ints, to_z-of_z))

pub returns-else-down : goal.returns-else-down
returns-else-down c = rw c.if-down.false (grind (arith, ints, to_z-of_z))
