use Rattle.std.proofs.Common.{subst}
use Rattle.ass_num.specs.Paths.{IsSegment}
use Rattle.outline_points.proofs.Walks.{cubic_held}
use Rattle.outline_points.proofs.drawings.push_segment.Goals as goal

pub scaled_point-requires-in-Cubic-3-clause-point : goal.scaled_point-requires-in-Cubic-3-clause-point
scaled_point-requires-in-Cubic-3-clause-point c = (cubic_held c.in-Cubic.b c.in-Cubic.c c.in-Cubic.d (subst IsSegment c.in-Cubic.is c.requires.segment)).1

pub scaled_point-requires-in-Cubic-4-clause-point : goal.scaled_point-requires-in-Cubic-4-clause-point
scaled_point-requires-in-Cubic-4-clause-point c = (cubic_held c.in-Cubic.b c.in-Cubic.c c.in-Cubic.d (subst IsSegment c.in-Cubic.is c.requires.segment)).2

pub returns-in-Cubic-clause-added : goal.returns-in-Cubic-clause-added
returns-in-Cubic-clause-added c =
    rw c.in-Cubic.is (rw (c.scaled_point-in-Cubic.ensures.value, c.scaled_point-in-Cubic-2.ensures.value, c.scaled_point-in-Cubic-3.ensures.value, c.scaled_point-in-Cubic-4.ensures.value) at c.add_cubic.ensures.added)
