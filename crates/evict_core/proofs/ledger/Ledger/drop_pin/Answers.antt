use Rattle.std.proofs.Common.{arith}
use Rattle.evict_core.proofs.SumLemmas.{sums-fit, drop-idle, drop-busy}
use Rattle.evict_core.proofs.ledger.Ledger.drop_pin.Goals as goal

pub overflow_add-self : goal.overflow_add-self
overflow_add-self g c =
    let fit = sums-fit _ _ _ _ c.self.invariant in
    let idle = rw c.drop_pin.ensures at c.in-Some.ensures.some in
    let enough = (drop-idle g.K.PartialEq.eq c.self.inside.entries _ _ _ c.self.invariant c.args.key.now g.met.K.Eq.laws (rw (← c.self.view_is) at c.requires) c.in-Some.cost idle).0 in
    omega (arith, fit.0, enough)

pub overflow_sub-self : goal.overflow_sub-self
overflow_sub-self g c = let idle = rw c.drop_pin.ensures at c.in-Some.ensures.some in (drop-idle g.K.PartialEq.eq c.self.inside.entries _ _ _ c.self.invariant c.args.key.now g.met.K.Eq.laws (rw (← c.self.view_is) at c.requires) c.in-Some.cost idle).0

pub overflow_add-self-in-Some : goal.overflow_add-self-in-Some
overflow_add-self-in-Some g c = let fit = sums-fit _ _ _ _ c.self.invariant in omega (arith, fit.1)

pub invariant_of-self : goal.invariant_of-self
invariant_of-self g c = let idle = rw c.drop_pin.ensures at c.in-Some.ensures.some in rw c.drop_pin.ensures (drop-idle g.K.PartialEq.eq c.self.inside.entries _ _ _ c.self.invariant c.args.key.now g.met.K.Eq.laws (rw (← c.self.view_is) at c.requires) c.in-Some.cost idle).1

pub invariant_of-self-in_default : goal.invariant_of-self-in_default
invariant_of-self-in_default g c = let busy = rw c.drop_pin.ensures at c.in_default.ensures.none in rw c.drop_pin.ensures (drop-busy g.K.PartialEq.eq c.self.inside.entries _ _ _ c.self.invariant c.args.key.now g.met.K.Eq.laws (rw (← c.self.view_is) at c.requires) busy)
