use Rattle.std.proofs.Common.{rules}
use Rattle.sample_region.proofs.SortLemmas.{ascending_from_sort}
use Rattle.sample_region.specs.declared.sweep.Crossing.{Crossing}
use Rattle.sample_region.proofs.sweep.sort.Goals as goal

pub returns-clause-ascending : goal.returns-clause-ascending
returns-clause-ascending c = ascending_from_sort (λ (x : Crossing). x.at) _ c.sort_unstable_by_key.ensures.sorted (λ f a r q k. search rules)
