use Rattle.std.proofs.Common.{rules}
use Rattle.border_region.proofs.SortLemmas.{rising_from_sort}
use Rattle.border_region.proofs.strip_rows.sort.Goals as goal

pub returns-clause-ascending : goal.returns-clause-ascending
returns-clause-ascending c = rising_from_sort _ c.sort_unstable_by_key.ensures.sorted (λ f a r q k. search rules)
