use Rattle.std.proofs.Common.{◌≡◌, ◌-◌, ◌++◌, map}
use Rattle.std.specs.List.{All, range_with_len}
use Rattle.ass_num.specs.Limits.{IsPointWithin}
use Rattle.outline_points.specs.Limits.{max_length}
use Rattle.outline_points.specs.Curves.{spline_point}
use Rattle.outline_points.proofs.drawings.add_piece.Given as goal

abbrev pub invariant-loop-u : goal.invariant-loop-u
invariant-loop-u l =
    (l.points.items ≡ l.initial.points.items ++ map (spline_point l.a l.b l.c l.d) (range_with_len 0 (l.u - 0)))
    × (All (IsPointWithin max_length) l.initial.points.items → All (IsPointWithin max_length) l.points.items)
