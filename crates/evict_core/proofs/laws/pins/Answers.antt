use Rattle.evict_core.proofs.PinLaws.{flies-where-pending, pins-are-held, held-are-pins, given-were-taken, held-is-kept}
use Rattle.evict_core.proofs.laws.pins.Goals as goal

pub returns : goal.returns
returns g c = record {
  making = flies-where-pending g.K.PartialEq.eq g.met.K.Eq.laws;
  counted = pins-are-held g.K.PartialEq.eq g.met.K.Eq.laws;
  held = held-are-pins g.K.PartialEq.eq g.met.K.Eq.laws;
  given = given-were-taken g.K.PartialEq.eq g.met.K.Eq.laws;
  kept = held-is-kept g.K.PartialEq.eq g.met.K.Eq.laws;
}
