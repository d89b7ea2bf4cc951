use Rattle.std.proofs.Common.{◌-◌, length}
use Rattle.drawing_path.proofs.ReadingLemmas.{IsReading}
use Rattle.drawing_path.proofs.points.read_points.Given as goal

abbrev pub invariant-loop-at : goal.invariant-loop-at
invariant-loop-at l = IsReading l.text l.at l.points.items l.waiting

abbrev pub decreases-loop-at : goal.decreases-loop-at
decreases-loop-at l = length l.text - l.at
