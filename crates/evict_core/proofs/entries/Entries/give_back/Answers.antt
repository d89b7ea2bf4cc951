use Rattle.std.proofs.Common.{sym, ap, ◌∙◌, arith, length}
use Rattle.evict_core.specs.Machine.{one_pin_less, flying}
use Rattle.evict_core.proofs.SumLemmas.{length-change}
use Rattle.evict_core.proofs.FlyingLemmas.{flying-unpinned}
use Rattle.evict_core.proofs.entries.Entries.give_back.Goals as goal

pub invariant_of-self : goal.invariant_of-self
invariant_of-self g c = (omega (arith, ap length c.drop_pin.ensures, length-change (g.K.PartialEq.eq c.args.key.now) one_pin_less c.self.inside.list, c.self.invariant.0), c.self.invariant.1, c.self.invariant.2 ∙ sym (ap flying c.drop_pin.ensures ∙ flying-unpinned (g.K.PartialEq.eq c.args.key.now) c.self.inside.list), c.self.invariant.3)
