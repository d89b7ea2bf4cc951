use Rattle.font_laws.proofs.SameFonts.{are_answers_alike}
use Rattle.font_laws.proofs.laws.bytes_behind_change_nothing.Goals as goal

pub returns : goal.returns
returns c = are_answers_alike
