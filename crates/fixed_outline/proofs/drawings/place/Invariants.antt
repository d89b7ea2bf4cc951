use Rattle.std.proofs.Common.{◌≡◌, ◌++◌, take, drop, map}
use Rattle.std.specs.List.{All}
use Rattle.ass_num.specs.Limits.{IsOutlinePoint}
use Rattle.fixed_outline.specs.Figures.{placed_point}
use Rattle.fixed_outline.proofs.drawings.place.Given as goal

abbrev pub invariant-loop-p : goal.invariant-loop-p
invariant-loop-p l =
    (l.points ≡ map (placed_point l.turn.angle l.shift) (take l.p-index l.initial.points) ++ drop l.p-index l.initial.points)
    × All IsOutlinePoint (take l.p-index l.points)
