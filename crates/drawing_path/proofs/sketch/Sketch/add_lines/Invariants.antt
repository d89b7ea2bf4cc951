use Rattle.std.proofs.Common.{◌≡◌, ◌++◌, drop, map}
use Rattle.ass_num.specs.declared.geometry.Seg.TheVariants.{Line}
use Rattle.drawing_path.proofs.sketch.Sketch.add_lines.Given as goal

abbrev pub invariant-loop-point : goal.invariant-loop-point
invariant-loop-point l = record {
  segs : l.self.segs.items ++ map Line (drop l.point-index l.points) ≡ l.initial.self.segs.items ++ map Line l.points;
  spline : l.self.spline ≡ l.initial.self.spline;
}
