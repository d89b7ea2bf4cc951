use Rattle.text_layout.proofs.OneLemmas.{one_laid}
use Rattle.text_layout.proofs.laws.one_layout.Goals as goal

pub returns : goal.returns
returns c = one_laid
