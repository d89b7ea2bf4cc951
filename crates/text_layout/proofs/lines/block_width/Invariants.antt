use Rattle.std.proofs.Common.{◌≡◌, take, pos, ◌≤ℤ◌}
use Rattle.text_layout.specs.Limits.{max_line}
use Rattle.text_layout.specs.Lines.{block_width}
use Rattle.text_layout.proofs.lines.block_width.Given as goal

abbrev pub invariant-loop-extent : goal.invariant-loop-extent
invariant-loop-extent l = record {
  value : l.width ≡ block_width (take l.extent-index l.extents);
  from_zero : pos 0 ≤ℤ l.width;
  most : l.width ≤ℤ pos max_line;
}
