use Rattle.std.proofs.Common.{◌≡◌, ◌++◌, take}
use Rattle.drawing_path.proofs.sketch.close.Given as goal

abbrev pub invariant-loop-k : goal.invariant-loop-k
invariant-loop-k l = l.control ≡ l.initial.control ++ take l.k l.initial.control
