use Rattle.std.proofs.Common.{arith}
use Rattle.evict_core.proofs.SumLemmas.{sums-fit, add-idle, add-busy}
use Rattle.evict_core.proofs.ledger.Ledger.add_pin.Goals as goal

pub overflow_sub-self : goal.overflow_sub-self
overflow_sub-self g c = (add-idle g.K.PartialEq.eq c.self.inside.entries _ _ _ c.self.invariant c.args.key.now c.in-Some.cost c.in-Some.ensures.some).0

pub overflow_add-self : goal.overflow_add-self
overflow_add-self g c =
    let fit = sums-fit _ _ _ _ c.self.invariant in
    let enough = (add-idle g.K.PartialEq.eq c.self.inside.entries _ _ _ c.self.invariant c.args.key.now c.in-Some.cost c.in-Some.ensures.some).0 in
    omega (arith, fit.0, enough)

pub overflow_sub-self-in-Some : goal.overflow_sub-self-in-Some
overflow_sub-self-in-Some g c = (add-idle g.K.PartialEq.eq c.self.inside.entries _ _ _ c.self.invariant c.args.key.now c.in-Some.cost c.in-Some.ensures.some).1

pub invariant_of-self : goal.invariant_of-self
invariant_of-self g c = rw c.add_pin.ensures (add-idle g.K.PartialEq.eq c.self.inside.entries _ _ _ c.self.invariant c.args.key.now c.in-Some.cost c.in-Some.ensures.some).2

pub invariant_of-self-in-None : goal.invariant_of-self-in-None
invariant_of-self-in-None g c = rw c.add_pin-in-None.ensures (add-busy g.K.PartialEq.eq c.self.inside.entries _ _ _ c.self.invariant c.args.key.now c.in-None.ensures.none)
