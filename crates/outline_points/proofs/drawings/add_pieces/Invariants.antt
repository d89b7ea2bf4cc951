use Rattle.std.proofs.Common.{◌≡◌, ◌∷◌, ◌++◌, map, drop}
use Rattle.std.specs.List.{All}
use Rattle.ass_num.specs.Limits.{IsPointWithin}
use Rattle.outline_points.specs.Limits.{max_length, max_scaled}
use Rattle.outline_points.specs.Drawings.{scaled_point, spline_points}
use Rattle.outline_points.proofs.drawings.add_pieces.Given as goal

abbrev pub invariant-loop-control : goal.invariant-loop-control
invariant-loop-control l =
    (l.points.items ++ spline_points (l.a ∷ l.b ∷ l.c ∷ map (scaled_point l.m) (drop l.control-index l.rest)) ≡ l.initial.points.items ++ spline_points (l.initial.a ∷ l.initial.b ∷ l.initial.c ∷ map (scaled_point l.m) l.rest))
    × (All (IsPointWithin max_length) l.initial.points.items → All (IsPointWithin max_length) l.points.items)
    × IsPointWithin max_scaled l.a
    × IsPointWithin max_scaled l.b
    × IsPointWithin max_scaled l.c
