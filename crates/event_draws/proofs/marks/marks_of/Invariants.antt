use Rattle.std.proofs.Common.{◌≡◌, take}
use Rattle.std.specs.List.{All}
use Rattle.event_draws.specs.Marks.{IsMark, marks_of}
use Rattle.event_draws.proofs.marks.marks_of.Given as goal

abbrev pub invariant-loop-placed : goal.invariant-loop-placed
invariant-loop-placed l = record {
  value : l.marks ≡ marks_of l.stage l.fonts.fonts l.view l.line (take l.placed-index l.items);
  range : All IsMark l.marks;
}
