use Rattle.std.proofs.Common.{ℕ, ◌+◌, ◌*◌, length, ap, ◌∙◌, arith}
use Rattle.std.specs.Prelude.{min}
use Rattle.evict_core.specs.Machine.{max_cost}
use Rattle.flight_cache.specs.Meaning.{SumView, mixed_all}
use Rattle.flight_cache.proofs.Counted.{count-below, priced}
use Rattle.flight_cache.proofs.made.entry_cost.Goals as goal

pub overflow_add-cost : goal.overflow_add-cost
overflow_add-cost g c =
    let numbers = g.M.Made.meaning.numbers c.args.key.now in
    let below = count-below c.numbers.new.sum numbers (c.numbers.ensures ∙ ap (λ (s : SumView). mixed_all s numbers) c.new-sum.ensures) in
    omega (arith, below, c.key_cost.ensures, c.cost.ensures, c.requires)

pub returns : goal.returns
returns g c =
    let numbers = g.M.Made.meaning.numbers c.args.key.now in
    c.min.ensures ∙ (priced c.numbers.new.sum numbers (c.numbers.ensures ∙ ap (λ (s : SumView). mixed_all s numbers) c.new-sum.ensures) c.cost.result c.key_cost.result c.key_cost.ensures
    ∙ ap (λ (n : ℕ). min max_cost (n + 20 * length numbers)) c.cost.ensures)
