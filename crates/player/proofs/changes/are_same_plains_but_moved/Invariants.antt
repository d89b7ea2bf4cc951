use Rattle.std.proofs.Common.{◌≡◌, map, take}
use Rattle.player.specs.Changes.{unplaced_plain}
use Rattle.player.proofs.changes.are_same_plains_but_moved.Given as goal

abbrev pub invariant-loop-i : goal.invariant-loop-i
invariant-loop-i l = map unplaced_plain (take l.i l.a) ≡ map unplaced_plain (take l.i l.b)
