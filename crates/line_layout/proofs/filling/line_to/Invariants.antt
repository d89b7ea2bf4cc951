use Rattle.std.proofs.Common.{◌<◌, ◌≤◌, ◌-◌, ◌≤ℤ◌, length}
use Rattle.line_layout.specs.Breaks.{width}
use Rattle.line_layout.specs.Filling.{line_start, line_end}
use Rattle.line_layout.proofs.filling.line_to.Given as goal

abbrev pub invariant-loop-end : goal.invariant-loop-end
invariant-loop-end l = record {
  onward : l.first ≤ l.end;
  within : l.end ≤ length l.spaces;
  narrow : l.first < l.end → width l.widths (line_start l.spaces l.first) (line_end l.widths l.spaces l.end) ≤ℤ l.limit;
}

abbrev pub decreases-loop-end : goal.decreases-loop-end
decreases-loop-end l = length l.spaces - l.end
