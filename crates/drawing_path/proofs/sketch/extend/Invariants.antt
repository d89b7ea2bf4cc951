use Rattle.std.proofs.Common.{◌≡◌, ◌++◌, drop}
use Rattle.drawing_path.proofs.sketch.extend.Given as goal

abbrev pub invariant-loop-point : goal.invariant-loop-point
invariant-loop-point l = l.control ++ drop l.point-index l.points ≡ l.initial.control ++ l.points
