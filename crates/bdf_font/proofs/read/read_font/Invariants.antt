use Rattle.std.proofs.Common.{◌≡◌, ◌+◌, ◌≤◌, length}
use Rattle.bdf_font.specs.Lines.{text_lines}
use Rattle.bdf_font.specs.Steps.{no_font_lines}
use Rattle.bdf_font.specs.Ranges.{IsFontReading}
use Rattle.bdf_font.proofs.Walk.{lines_read}
use Rattle.bdf_font.proofs.read.read_font.Given as goal

abbrev pub invariant-loop-line : goal.invariant-loop-line
invariant-loop-line l = record {
  read : lines_read l.number l.line-iterator l.reading ≡ lines_read 1 (text_lines l.fn.bytes) no_font_lines;
  sound : IsFontReading l.reading;
  counted : l.number + length l.line-iterator ≤ 67108865;
}
