use Rattle.std.proofs.Common.{ℕ, ◌+◌, length, take, drop}
use Rattle.text_layout.specs.Kinds.{roles_of}
use Rattle.text_layout.specs.Spans.{AreLines, AreSpans}
use Rattle.text_layout.proofs.spans.line_spans.Given as goal

abbrev pub invariant-loop-paragraph : goal.invariant-loop-paragraph
invariant-loop-paragraph l = record {
  lines : AreLines l.wrap (roles_of l.wrap l.items) l.advances l.max (take l.paragraph-index l.paragraph-items) l.lines.items;
  order : (at : ℕ) × AreSpans 0 at l.lines.items × AreSpans at (length l.items + 1) (drop l.paragraph-index l.paragraph-items);
}
