use Rattle.std.proofs.Common.{rules}
use Rattle.sample_region.proofs.SortLemmas.{ascending_from_sort}
use Rattle.sample_region.specs.declared.edges.SweepEdge.{SweepEdge}
use Rattle.sample_region.proofs.edges.sort.Goals as goal

pub returns-clause-ordered : goal.returns-clause-ordered
returns-clause-ordered c = ascending_from_sort (λ (e : SweepEdge). e.upper.y) _ c.sort_unstable_by_key.ensures.sorted (λ f a r q k. search rules)
