use Rattle.std.proofs.Common.{◌≡◌, ℕ, ◌++◌, map, flat_map}
use Rattle.std.specs.List.{All, range_with_len}
use Rattle.ass_num.specs.Limits.{IsOutlinePoint}
use Rattle.outline_points.specs.Contours.{points_at}
use Rattle.outline_points.specs.Placing.{outline_point}
use Rattle.fixed_outline.proofs.contours.add_points.Given as goal

abbrev pub invariant-loop-i : goal.invariant-loop-i
invariant-loop-i l =
    (l.ring.items ≡ l.initial.ring.items ++ flat_map (λ (i : ℕ). map (outline_point l.style.matrix.turn) (points_at l.style.matrix l.shift l.contour i)) (range_with_len 0 l.i))
    × (All IsOutlinePoint l.initial.ring.items → All IsOutlinePoint l.ring.items)
