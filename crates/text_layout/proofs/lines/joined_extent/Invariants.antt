use Rattle.std.proofs.Common.{◌≡◌, ◌*◌, take, pos, ◌≤ℤ◌}
use Rattle.line_layout.specs.Breaks.{IsItemWidth, max_width}
use Rattle.text_layout.specs.Lines.{advances_of, ascents_of, descents_of, greatest, length_sum}
use Rattle.text_layout.proofs.lines.joined_extent.Given as goal

abbrev pub invariant-loop-extent : goal.invariant-loop-extent
invariant-loop-extent l = record {
  advance : l.advance ≡ length_sum (advances_of (take l.extent-index l.extents));
  ascent : l.ascent ≡ greatest (ascents_of (take l.extent-index l.extents));
  descent : l.descent ≡ greatest (descents_of (take l.extent-index l.extents));
  from_zero : pos 0 ≤ℤ l.advance;
  most : l.advance ≤ℤ pos (l.extent-index * max_width);
  above : IsItemWidth l.ascent;
  below : IsItemWidth l.descent;
}
