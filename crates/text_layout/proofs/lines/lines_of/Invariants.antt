use Rattle.std.proofs.Common.{◌≡◌, ◌++◌, ◌*◌, drop, pos, ◌≤ℤ◌}
use Rattle.line_layout.specs.Breaks.{max_width}
use Rattle.text_layout.specs.Lines.{lines_from}
use Rattle.text_layout.proofs.lines.lines_of.Given as goal

abbrev pub invariant-loop-k : goal.invariant-loop-k
invariant-loop-k l = record {
  value : l.lines ++ lines_from l.column l.width l.top (drop l.k l.spans) (drop l.k l.extents) ≡ lines_from l.column l.width (pos 0) l.spans l.extents;
  from_zero : pos 0 ≤ℤ l.top;
  most : l.top ≤ℤ pos (l.k * (2 * max_width));
}
