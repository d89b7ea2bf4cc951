use Rattle.evict_core.proofs.LegalLemmas.{none-is-legal, more-is-legal}
use Rattle.evict_core.proofs.FillLaws.{legal-front}
use Rattle.evict_core.proofs.laws.legal.Goals as goal

pub returns : goal.returns
returns g c = record { none = none-is-legal _ g.K.PartialEq.eq; more = more-is-legal _ g.K.PartialEq.eq; front = legal-front g.K.PartialEq.eq g.met.K.Eq.laws }
