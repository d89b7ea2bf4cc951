use Rattle.std.proofs.Common.{◌≡◌, ℕ, subst}
use Rattle.evict_core.specs.Asked.{totals_of}
use Rattle.flight_cache.specs.Budgets.{shown_budgets}
use Rattle.flight_cache.specs.Calls.{ShardView, ShardPassView}
use Rattle.flight_cache.specs.Histories.{left_by}
use Rattle.flight_cache.specs.Shards.{CacheView, CachePassView, Shards, both}
use Rattle.flight_cache.proofs.Sums.{budgets-are}
use Rattle.flight_cache.proofs.cache.Cache.budgets.Goals as goal

pub returns-clause-budgets : goal.returns-clause-budgets
returns-clause-budgets g c =
    let after : CachePassView g.row.M-Key.Denot g.row.M-Tag.Denot = record { first = c.totals-first.result.0; second = c.totals-second.result.0; third = c.totals-third.result.0; fourth = c.totals-fourth.result.0 } in
    let shown = both (λ (shard : ShardView g.row.M-Tag.Denot) (own : ShardPassView g.row.M-Key.Denot g.row.M-Tag.Denot). totals_of (left_by g.M.Key.PartialEq.eq g.M.Made.meaning shard.tag own.seen)) (record { first = c.self.inside.first; second = c.self.inside.second; third = c.self.inside.third; fourth = c.self.inside.fourth }) after in
    let budgets : Shards ℕ = record { first = c.totals-first.result.1.budget; second = c.totals-second.result.1.budget; third = c.totals-third.result.1.budget; fourth = c.totals-fourth.result.1.budget } in
    subst (λ (v : CacheView g.row.M-Tag.Denot). budgets ≡ shown_budgets g.M.Key.PartialEq.eq g.M.Made.meaning v after) c.self.view_is
    (budgets-are c.totals-first.result.1 c.totals-second.result.1 c.totals-third.result.1 c.totals-fourth.result.1 shown
    c.totals-first.ensures.totals c.totals-second.ensures.totals c.totals-third.ensures.totals c.totals-fourth.ensures.totals)
