use Rattle.script_fonts.proofs.ReadBack.{coded_are_read_back}
use Rattle.script_fonts.proofs.laws.fonts_are_read_back.Goals as goal

pub returns : goal.returns
returns c = coded_are_read_back
