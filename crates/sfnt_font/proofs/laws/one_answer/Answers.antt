use Rattle.sfnt_font.proofs.FaultBytes.{is_one_answer}
use Rattle.sfnt_font.proofs.laws.one_answer.Goals as goal

pub returns : goal.returns
returns c = is_one_answer
