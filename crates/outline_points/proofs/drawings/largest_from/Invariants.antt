use Rattle.std.proofs.Common.{◌≡◌, drop}
use Rattle.outline_points.specs.Drawings.{largest_from}
use Rattle.outline_points.proofs.drawings.largest_from.Given as goal

abbrev pub invariant-loop-p : goal.invariant-loop-p
invariant-loop-p l = largest_from l.largest (drop l.p-index l.points) ≡ largest_from l.initial.largest l.points
