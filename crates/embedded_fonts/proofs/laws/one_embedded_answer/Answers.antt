use Rattle.embedded_fonts.proofs.OneLemmas.{one_embedded}
use Rattle.embedded_fonts.proofs.laws.one_embedded_answer.Goals as goal

pub returns : goal.returns
returns c = one_embedded
