use Rattle.std.proofs.Common.{◌≡◌, ◌+◌, subst, arith}
use Rattle.evict_core.specs.Machine.{unpinned, pinned}
use Rattle.evict_core.proofs.SumLemmas.{sums-fit}
use Rattle.evict_core.proofs.ledger.Ledger.cost.Goals as goal

pub overflow_add-result : goal.overflow_add-result
overflow_add-result g c = let fit = sums-fit _ _ _ _ c.self.invariant in omega (arith, fit.0)

pub returns-clause-cost : goal.returns-clause-cost
returns-clause-cost g c =
    subst (λ l. c.self.inside.unpinned + c.self.inside.pinned ≡ unpinned l + pinned l) c.self.view_is (omega (arith, c.self.invariant.unpinned_is, c.self.invariant.pinned_is))

pub returns-clause-most : goal.returns-clause-most
returns-clause-most g c = let fit = sums-fit _ _ _ _ c.self.invariant in omega (arith, fit.0)
