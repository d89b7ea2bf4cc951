use Rattle.std.proofs.Common.{rules}
use Rattle.picture_plan.proofs.ShownLemmas.{by_layer_from_sort}
use Rattle.picture_plan.proofs.shown.sort_by_layer.Goals as goal

pub returns-clause-sorted : goal.returns-clause-sorted
returns-clause-sorted c = by_layer_from_sort _ c.sort_unstable_by_key.ensures.sorted (λ f a r q k. search rules)
