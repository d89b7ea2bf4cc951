use Rattle.std.proofs.Common.{◌≡◌}
use Rattle.std.specs.Str.Iter.{lines_steps}
use Rattle.std.specs.Str.Lines.{lines}
use Rattle.ass_script.specs.Words.{past_mark}
use Rattle.ass_script.specs.Ranges.{IsScriptReading}
use Rattle.ass_script.specs.Walk.{walked, no_script_lines}
use Rattle.ass_script.proofs.Yields.{Left}
use Rattle.ass_script.proofs.read.read_text.Given as goal

abbrev pub invariant-loop-line : goal.invariant-loop-line
invariant-loop-line l = record {
  sound : IsScriptReading l.reading;
  read : Left lines_steps (λ x. x.now) l.line-iterator (λ rest. walked rest l.reading ≡ walked (lines (past_mark l.fn.text)) no_script_lines);
}
