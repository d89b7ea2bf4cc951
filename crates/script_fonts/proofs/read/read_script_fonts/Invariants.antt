use Rattle.std.proofs.Common.{◌≡◌, ◌+◌, ◌≤◌, length, map}
use Rattle.ass_num.specs.Blanks.{trimmed}
use Rattle.script_fonts.specs.Attachments.{script_fonts_of}
use Rattle.script_fonts.proofs.Walk.{answer_from}
use Rattle.script_fonts.proofs.read.read_script_fonts.Given as goal

abbrev pub invariant-loop-line : goal.invariant-loop-line
invariant-loop-line l = record {
  read : answer_from l.reading (map trimmed l.line-iterator) ≡ script_fonts_of l.fn.bytes;
  counted : l.reading.number + length l.line-iterator ≤ 67108865;
}
