use Rattle.single_run.proofs.LineLemmas.{same_draws}
use Rattle.single_run.proofs.change_laws.same_draws_change_nothing.Goals as goal

pub returns : goal.returns
returns c = same_draws
