use Rattle.std.proofs.Common.{◌+◌, ap, ◌∙◌}
use Rattle.evict_core.specs.Machine.{unpinned}
use Rattle.evict_core.proofs.SumLemmas.{evict-sums}
use Rattle.evict_core.proofs.ledger.Ledger.evict.Goals as goal

pub overflow_sub-self-2 : goal.overflow_sub-self-2
overflow_sub-self-2 g c = (evict-sums c.self.inside.entries _ _ _ c.evict-cost.result c.self.invariant (rw (← c.self.view_is) at c.requires) (c.evict-cost.ensures.cost ∙ ap (λ l. c.evict-cost.result + unpinned l) c.evict-cost.ensures.entries)).1

pub invariant_of-self : goal.invariant_of-self
invariant_of-self g c = rw c.evict-cost.ensures.entries (evict-sums c.self.inside.entries _ _ _ c.evict-cost.result c.self.invariant (rw (← c.self.view_is) at c.requires) (c.evict-cost.ensures.cost ∙ ap (λ l. c.evict-cost.result + unpinned l) c.evict-cost.ensures.entries)).2
