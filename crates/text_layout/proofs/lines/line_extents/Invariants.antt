use Rattle.std.proofs.Common.{◌≡◌, take}
use Rattle.std.specs.List.{All}
use Rattle.text_layout.specs.Lines.{IsLineExtent, line_extents}
use Rattle.text_layout.proofs.lines.line_extents.Given as goal

abbrev pub invariant-loop-span : goal.invariant-loop-span
invariant-loop-span l = record {
  value : l.lines.items ≡ line_extents l.metrics l.items l.extents (take l.span-index l.spans);
  range : All IsLineExtent l.lines.items;
}
