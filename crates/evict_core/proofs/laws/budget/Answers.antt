use Rattle.evict_core.proofs.HistoryLemmas.{sound-replay}
use Rattle.evict_core.proofs.laws.budget.Goals as goal

pub returns : goal.returns
returns g c = λ limit budget h legal. (sound-replay g.K.PartialEq.eq g.met.K.Eq.laws limit budget h legal).in_budget
