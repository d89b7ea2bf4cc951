use Rattle.sfnt_font.proofs.FirstFault.{is_first_fault}
use Rattle.sfnt_font.proofs.laws.first_fault.Goals as goal

pub returns : goal.returns
returns c = is_first_fault
