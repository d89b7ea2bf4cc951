use Rattle.line_layout.proofs.ExistLemmas.{best-exists}
use Rattle.line_layout.proofs.laws.a_best_set_exists.Goals as goal

pub returns : goal.returns
returns c = best-exists
