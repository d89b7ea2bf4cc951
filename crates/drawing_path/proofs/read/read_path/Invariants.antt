use Rattle.std.proofs.Common.{◌-◌, length}
use Rattle.drawing_path.proofs.ReadingLemmas.{IsDrawn}
use Rattle.drawing_path.specs.Sketches.{IsSplinePlace}
use Rattle.drawing_path.proofs.read.read_path.Given as goal

abbrev pub invariant-loop-command : goal.invariant-loop-command
invariant-loop-command l = IsDrawn l.text l.at l.sketch.segs.items × IsSplinePlace l.sketch.segs.items l.sketch.spline

abbrev pub decreases-loop-command : goal.decreases-loop-command
decreases-loop-command l = length l.text - l.at
