use Rattle.std.proofs.Common.{◌≡◌, ◌++◌, ◌-◌, map, ◌+ℤ◌}
use Rattle.std.specs.List.{range_with_len}
use Rattle.line_layout.specs.Breaks.{width}
use Rattle.text_layout.specs.Lines.{advances_of, placed_item}
use Rattle.text_layout.proofs.lines.add_items.Given as goal

abbrev pub invariant-loop-item : goal.invariant-loop-item
invariant-loop-item l = record {
  value : l.placed ≡ l.initial.placed ++ map (placed_item (advances_of l.extents) l.number l.line) (range_with_len l.line.first (l.item - l.line.first));
  pen : l.x ≡ l.line.left +ℤ width (advances_of l.extents) l.line.first l.item;
}
