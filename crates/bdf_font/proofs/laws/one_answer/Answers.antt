use Rattle.std.proofs.Common.{sym}
use Rattle.bdf_font.specs.Steps.{no_font_lines}
use Rattle.bdf_font.proofs.Walk.{lines_read}
use Rattle.bdf_font.proofs.Answering.{one_answer, read_answer}
use Rattle.bdf_font.proofs.FileLemmas.{files_have_fonts, one_file_answer}
use Rattle.bdf_font.proofs.laws.one_answer.Goals as goal

pub returns-clause-one : goal.returns-clause-one
returns-clause-one c = λ lines. (lines_read 1 lines no_font_lines, read_answer lines, λ other is. sym (one_answer lines other is))

pub returns-clause-files : goal.returns-clause-files
returns-clause-files c = one_file_answer

pub returns-clause-fonts : goal.returns-clause-fonts
returns-clause-fonts c = files_have_fonts
