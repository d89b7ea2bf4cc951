use Rattle.std.proofs.Common.{◌≡◌, drop}
use Rattle.sfnt_glyphs.specs.Glyphs.{placed_points}
use Rattle.sfnt_glyphs.proofs.points.placed_points.Given as goal

abbrev pub invariant-loop-point : goal.invariant-loop-point
invariant-loop-point l = placed_points l.placing (drop l.point-index l.points) l.placed ≡ placed_points l.placing l.points l.initial.placed
