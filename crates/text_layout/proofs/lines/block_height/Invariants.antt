use Rattle.std.proofs.Common.{◌≡◌, ◌*◌, take, pos, ◌≤ℤ◌}
use Rattle.line_layout.specs.Breaks.{max_width}
use Rattle.text_layout.specs.Lines.{block_height}
use Rattle.text_layout.proofs.lines.block_height.Given as goal

abbrev pub invariant-loop-extent : goal.invariant-loop-extent
invariant-loop-extent l = record {
  value : l.height ≡ block_height (take l.extent-index l.extents);
  from_zero : pos 0 ≤ℤ l.height;
  most : l.height ≤ℤ pos (l.extent-index * (2 * max_width));
}
