use Rattle.std.proofs.Common.{◌≡◌, ℕ, ◌-◌, ◌++◌, map}
use Rattle.std.specs.List.{All, range_with_len}
use Rattle.ass_num.specs.Limits.{IsOutlinePoint}
use Rattle.outline_points.specs.Contours.{quadratic_point}
use Rattle.outline_points.specs.Placing.{outline_point}
use Rattle.fixed_outline.proofs.contours.add_steps.Given as goal

abbrev pub invariant-loop-u : goal.invariant-loop-u
invariant-loop-u l =
    (l.ring.items ≡ l.initial.ring.items ++ map (λ (u : ℕ). outline_point l.turn.angle (quadratic_point l.a l.b l.c l.n u)) (range_with_len 1 (l.u - 1)))
    × (All IsOutlinePoint l.initial.ring.items → All IsOutlinePoint l.ring.items)
