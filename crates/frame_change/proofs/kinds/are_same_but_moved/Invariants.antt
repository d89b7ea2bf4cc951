use Rattle.std.proofs.Common.{◌≡◌, map, take}
use Rattle.frame_change.specs.Changes.{unplaced}
use Rattle.frame_change.proofs.kinds.are_same_but_moved.Given as goal

abbrev pub invariant-loop-i : goal.invariant-loop-i
invariant-loop-i l = map unplaced (take l.i l.a) ≡ map unplaced (take l.i l.b)
