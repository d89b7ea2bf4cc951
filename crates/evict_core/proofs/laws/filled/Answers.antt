use Rattle.evict_core.proofs.LegalLemmas.{ready-was-filled}
use Rattle.evict_core.proofs.laws.filled.Goals as goal

pub returns : goal.returns
returns g c = ready-was-filled _ g.K.PartialEq.eq g.met.K.Eq.laws
