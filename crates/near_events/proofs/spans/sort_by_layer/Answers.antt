use Rattle.std.proofs.Common.{rules}
use Rattle.near_events.proofs.Sorts.{in_order_from_sort}
use Rattle.near_events.proofs.spans.sort_by_layer.Goals as goal

pub returns-clause-sorted : goal.returns-clause-sorted
returns-clause-sorted c = in_order_from_sort _ c.sort_unstable_by_key.ensures.sorted (λ f a r q k. search rules)
