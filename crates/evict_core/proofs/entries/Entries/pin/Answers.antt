use Rattle.std.proofs.Common.{sym, ap, ◌∙◌, arith, length}
use Rattle.evict_core.specs.Machine.{one_pin_more, flying}
use Rattle.evict_core.proofs.SumLemmas.{length-to_front}
use Rattle.evict_core.proofs.FlyingLemmas.{flying-pinned}
use Rattle.evict_core.proofs.entries.Entries.pin.Goals as goal

pub invariant_of-self : goal.invariant_of-self
invariant_of-self g c = (omega (arith, ap length c.add_pin.ensures, length-to_front (g.K.PartialEq.eq c.args.key.now) one_pin_more c.self.inside.list, c.self.invariant.0), c.self.invariant.1, c.self.invariant.2 ∙ sym (ap flying c.add_pin.ensures ∙ flying-pinned (g.K.PartialEq.eq c.args.key.now) c.self.inside.list), c.self.invariant.3)
