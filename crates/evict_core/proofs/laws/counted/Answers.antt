use Rattle.evict_core.proofs.CountLemmas.{counts-say}
use Rattle.evict_core.proofs.laws.counted.Goals as goal

pub returns : goal.returns
returns g c = counts-say g.K.PartialEq.eq g.met.K.Eq.laws
