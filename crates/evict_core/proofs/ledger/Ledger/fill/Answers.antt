use Rattle.std.proofs.Common.{arith}
use Rattle.evict_core.proofs.SumLemmas.{sums-fit, fill-sums, some-of}
use Rattle.evict_core.proofs.ledger.Ledger.fill.Goals as goal

pub overflow_add-self : goal.overflow_add-self
overflow_add-self g c = let fit = sums-fit _ _ _ _ c.self.invariant in omega (arith, fit.0, c.requires.cost)

pub invariant_of-self : goal.invariant_of-self
invariant_of-self g c =
    let made = some-of _ (rw (← c.self.view_is) at c.requires.flying) in
    rw c.fill.ensures (fill-sums g.K.PartialEq.eq c.self.inside.entries _ _ _ c.self.invariant c.args.key.now c.args.cost _ made.0 made.1 c.requires.cost)
