use Rattle.event_draws.proofs.MaximalRuns.{runs_maximal}
use Rattle.event_draws.proofs.laws.runs_are_maximal.Goals as goal

pub returns : goal.returns
returns c view items = runs_maximal view items
