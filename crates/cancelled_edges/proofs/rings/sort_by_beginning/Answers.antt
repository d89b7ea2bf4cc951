use Rattle.std.proofs.Common.{rules}
use Rattle.cancelled_edges.proofs.NextLemmas.{in_order_from_sort}
use Rattle.cancelled_edges.specs.declared.rings.Start.{Start}
use Rattle.cancelled_edges.proofs.rings.sort_by_beginning.Goals as goal

pub returns-clause-in_order : goal.returns-clause-in_order
returns-clause-in_order c = in_order_from_sort (λ (s : Start). s.from) _ c.sort_unstable_by_key.ensures.sorted (λ f a r q k. search rules)
