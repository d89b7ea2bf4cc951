use Rattle.evict_core.proofs.HardLemmas.{none-fits, more-fits, stays-in-hard-limit}
use Rattle.evict_core.proofs.laws.hard.Goals as goal

pub returns : goal.returns
returns g c = record { within = stays-in-hard-limit _ g.K.PartialEq.eq g.met.K.Eq.laws; none = none-fits _ g.K.PartialEq.eq; more = more-fits _ g.K.PartialEq.eq }
