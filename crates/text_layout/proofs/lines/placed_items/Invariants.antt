use Rattle.std.proofs.Common.{◌≡◌, ◌++◌, drop}
use Rattle.text_layout.specs.Lines.{advances_of, placed_from}
use Rattle.text_layout.proofs.lines.placed_items.Given as goal

abbrev pub invariant-loop-number : goal.invariant-loop-number
invariant-loop-number l = l.placed ++ placed_from (advances_of l.extents) l.number (drop l.number l.lines) ≡ placed_from (advances_of l.extents) 0 l.lines
