use Rattle.evict_core.proofs.FillLaws.{claims-once, fills-once}
use Rattle.evict_core.proofs.laws.single_fill.Goals as goal

pub returns-clause-claims : goal.returns-clause-claims
returns-clause-claims g c = claims-once g.K.PartialEq.eq g.met.K.Eq.laws

pub returns-clause-fills : goal.returns-clause-fills
returns-clause-fills g c = fills-once g.K.PartialEq.eq g.met.K.Eq.laws
