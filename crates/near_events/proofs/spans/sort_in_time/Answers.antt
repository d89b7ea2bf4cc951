use Rattle.std.proofs.Common.{rules}
use Rattle.near_events.proofs.Sorts.{in_time_from_sort}
use Rattle.near_events.proofs.spans.sort_in_time.Goals as goal

pub returns-clause-sorted : goal.returns-clause-sorted
returns-clause-sorted c = in_time_from_sort _ c.sort_unstable_by_key.ensures.sorted (λ f a r q k. search rules)
