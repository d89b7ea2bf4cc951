use Rattle.std.proofs.Common.{◌≡◌, [], drop}
use Rattle.ass_num.specs.Limits.{IsHeldPoint, IsPointWithin}
use Rattle.outline_points.specs.Limits.{max_length}
use Rattle.outline_points.specs.Drawings.{largest_from, walk_points}
use Rattle.outline_points.proofs.drawings.extent_from.Given as goal

abbrev pub invariant-loop-seg : goal.invariant-loop-seg
invariant-loop-seg l =
    IsHeldPoint l.vertex
    × (l.points.items ≡ [])
    × (largest_from l.largest (walk_points l.m l.vertex (drop l.seg-index l.segs)) ≡ largest_from l.initial.largest (walk_points l.m l.initial.vertex l.segs))
    × IsPointWithin max_length l.largest
