use Rattle.std.proofs.Common.{◌≡◌, ◌++◌, drop, map, pos}
use Rattle.std.specs.List.{All}
use Rattle.ass_num.specs.Limits.{IsOutlinePoint, IsPointWithin}
use Rattle.outline_points.specs.CubicContours.{max_stroke, points_from}
use Rattle.outline_points.specs.Placing.{outline_point}
use Rattle.fixed_outline.proofs.strokes.add_strokes.Given as goal

abbrev pub invariant-loop-stroke : goal.invariant-loop-stroke
invariant-loop-stroke l =
    (l.ring.items ++ map (outline_point l.style.matrix.turn) (points_from l.style.matrix l.shift l.from (drop l.stroke-index l.contour))
    ≡ l.initial.ring.items ++ map (outline_point l.style.matrix.turn) (points_from l.style.matrix l.shift (record { x = pos 0; y = pos 0 }) l.contour))
    × (All IsOutlinePoint l.initial.ring.items → All IsOutlinePoint l.ring.items)
    × IsPointWithin max_stroke l.from
