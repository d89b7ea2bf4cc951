use Rattle.std.proofs.Common.{◌≡◌, ◌++◌, take}
use Rattle.ass_num.specs.Limits.{IsOutline}
use Rattle.outline_points.specs.CubicContours.{moved_stroke_rings}
use Rattle.fixed_outline.proofs.strokes.add_moved_strokes.Given as goal

abbrev pub invariant-loop-k : goal.invariant-loop-k
invariant-loop-k l =
    (l.rings ≡ l.initial.rings ++ moved_stroke_rings l.style.matrix l.shift (take l.k l.contours))
    × (IsOutline l.initial.rings → IsOutline l.rings)
