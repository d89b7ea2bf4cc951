use Rattle.std.proofs.Common.{◌≡◌, ◌++◌, length}
use Rattle.drawing_path.specs.Paths.{cubics_of}
use Rattle.drawing_path.proofs.sketch.Sketch.add_cubics.Given as goal

abbrev pub invariant-loop-rest : goal.invariant-loop-rest
invariant-loop-rest l = record {
  segs : l.self.segs.items ++ cubics_of l.rest ≡ l.initial.self.segs.items ++ cubics_of l.points;
  spline : l.self.spline ≡ l.initial.self.spline;
}

abbrev pub decreases-loop-rest : goal.decreases-loop-rest
decreases-loop-rest l = length l.rest
