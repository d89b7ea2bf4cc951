use Rattle.std.proofs.Common.{◌≡◌, ◌++◌, drop, map}
use Rattle.ass_num.specs.declared.geometry.Seg.TheVariants.{Move}
use Rattle.drawing_path.proofs.sketch.Sketch.begin.Given as goal

abbrev pub invariant-loop-point : goal.invariant-loop-point
invariant-loop-point l = l.self.segs.items ++ map Move (drop l.point-index l.points) ≡ l.initial.self.segs.items ++ map Move l.points
