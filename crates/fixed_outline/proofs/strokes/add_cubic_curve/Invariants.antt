use Rattle.std.proofs.Common.{◌≡◌, ℕ, ◌-◌, ◌++◌, map}
use Rattle.std.specs.List.{All, range_with_len}
use Rattle.ass_num.specs.Limits.{IsOutlinePoint}
use Rattle.outline_points.specs.CubicContours.{point_of_cubic}
use Rattle.outline_points.specs.Placing.{outline_point}
use Rattle.fixed_outline.proofs.strokes.add_cubic_curve.Given as goal

abbrev pub invariant-loop-u : goal.invariant-loop-u
invariant-loop-u l =
    (l.ring.items ≡ l.initial.ring.items ++ map (λ (u : ℕ). outline_point l.turn.angle (point_of_cubic l.a l.b l.c l.d l.n u)) (range_with_len 1 (l.u - 1)))
    × (All IsOutlinePoint l.initial.ring.items → All IsOutlinePoint l.ring.items)
