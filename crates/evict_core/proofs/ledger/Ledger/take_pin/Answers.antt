use Rattle.std.proofs.Common.{arith, sym}
use Rattle.evict_core.proofs.SumLemmas.{sums-fit}
use Rattle.evict_core.proofs.LookLemmas.{sums-idle, sums-busy}
use Rattle.evict_core.proofs.ledger.Ledger.take_pin.Goals as goal

pub overflow_sub-self : goal.overflow_sub-self
overflow_sub-self g c = (sums-idle g.K.PartialEq.eq c.self.inside.entries _ _ _ c.self.invariant c.args.key.now c.take_pin-look.result c.in-Some.cost c.take_pin-look.ensures.look (sym c.in-Some.ensures)).0

pub overflow_add-self : goal.overflow_add-self
overflow_add-self g c =
    let fit = sums-fit _ _ _ _ c.self.invariant in
    let enough = (sums-idle g.K.PartialEq.eq c.self.inside.entries _ _ _ c.self.invariant c.args.key.now c.take_pin-look.result c.in-Some.cost c.take_pin-look.ensures.look (sym c.in-Some.ensures)).0 in
    omega (arith, fit.0, enough)

pub overflow_sub-self-in-Some : goal.overflow_sub-self-in-Some
overflow_sub-self-in-Some g c = (sums-idle g.K.PartialEq.eq c.self.inside.entries _ _ _ c.self.invariant c.args.key.now c.take_pin-look.result c.in-Some.cost c.take_pin-look.ensures.look (sym c.in-Some.ensures)).1

pub invariant_of-self : goal.invariant_of-self
invariant_of-self g c = rw c.take_pin-look.ensures.list (sums-idle g.K.PartialEq.eq c.self.inside.entries _ _ _ c.self.invariant c.args.key.now c.take_pin-look.result c.in-Some.cost c.take_pin-look.ensures.look (sym c.in-Some.ensures)).2

pub invariant_of-self-in_default : goal.invariant_of-self-in_default
invariant_of-self-in_default g c = rw c.take_pin-look.ensures.list (sums-busy g.K.PartialEq.eq c.self.inside.entries _ _ _ c.self.invariant c.args.key.now c.take_pin-look.result c.take_pin-look.ensures.look c.in_default.ensures)
