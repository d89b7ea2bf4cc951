use Rattle.std.proofs.Common.{rules}
use Rattle.cancelled_edges.proofs.NextLemmas.{in_order_from_sort}
use Rattle.cancelled_edges.specs.declared.edges.Edge.{Edge}
use Rattle.cancelled_edges.proofs.rings.sort_by_end.Goals as goal

pub returns-clause-in_order : goal.returns-clause-in_order
returns-clause-in_order c = in_order_from_sort (λ (e : Edge). e.to) _ c.sort_unstable_by_key.ensures.sorted (λ f a r q k. search rules)
