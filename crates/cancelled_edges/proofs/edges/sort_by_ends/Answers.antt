use Rattle.std.proofs.Common.{rules}
use Rattle.cancelled_edges.proofs.EndsLemmas.{grouped_from_sort}
use Rattle.cancelled_edges.proofs.edges.sort_by_ends.Goals as goal

pub returns-clause-grouped : goal.returns-clause-grouped
returns-clause-grouped c = grouped_from_sort _ c.sort_unstable_by_key.ensures.sorted (λ f a r q k. search rules)
