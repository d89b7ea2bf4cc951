use Rattle.std.proofs.Common.{◌<◌, ◌≤◌, ◌≤ℤ◌}
use Rattle.line_layout.specs.Breaks.{width}
use Rattle.line_layout.specs.Filling.{line_start, line_end}
use Rattle.line_layout.proofs.filling.line_from.Given as goal

abbrev pub invariant-loop-first : goal.invariant-loop-first
invariant-loop-first l = record {
  back : l.first ≤ l.end;
  narrow : l.first < l.end → width l.widths (line_start l.spaces l.first) (line_end l.widths l.spaces l.end) ≤ℤ l.limit;
}

abbrev pub decreases-loop-first : goal.decreases-loop-first
decreases-loop-first l = l.first
