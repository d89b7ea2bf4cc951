use Rattle.evict_core.proofs.PinAllLemmas.{each-is-pinnable, pins-after-all, one-hit-more}
use Rattle.evict_core.proofs.laws.pin_all.Goals as goal

pub returns : goal.returns
returns g c = record { each = each-is-pinnable _ g.K.PartialEq.eq g.met.K.Eq.laws; pins = pins-after-all _ g.K.PartialEq.eq g.met.K.Eq.laws; more = one-hit-more _ g.K.PartialEq.eq }
