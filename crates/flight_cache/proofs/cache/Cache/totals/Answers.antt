use Rattle.std.proofs.Common.{◌≡◌, subst}
use Rattle.evict_core.specs.Asked.{totals_of}
use Rattle.flight_cache.specs.Histories.{left_by}
use Rattle.flight_cache.specs.Calls.{ShardView, ShardPassView}
use Rattle.flight_cache.specs.Shards.{CacheView, CachePassView, both, sum_of_totals}
use Rattle.flight_cache.proofs.Sums.{sums-in-budget, sums-are}
use Rattle.flight_cache.proofs.cache.Cache.totals.Goals as goal

pub returns-clause-totals : goal.returns-clause-totals
returns-clause-totals g c =
    let after : CachePassView g.row.M-Key.Denot g.row.M-Tag.Denot = record { first = c.totals-first.result.0; second = c.totals-second.result.0; third = c.totals-third.result.0; fourth = c.totals-fourth.result.0 } in
    subst (λ (v : CacheView g.row.M-Tag.Denot). c.sum-totals.result ≡ sum_of_totals (both (λ (shard : ShardView g.row.M-Tag.Denot) (after : ShardPassView g.row.M-Key.Denot g.row.M-Tag.Denot). totals_of (left_by g.M.Key.PartialEq.eq g.M.Made.meaning shard.tag after.seen)) v.shards after)) c.self.view_is
    (sums-are c.sum.result c.sum-2.result c.sum-totals.result c.totals-first.result.1 c.totals-second.result.1 c.totals-third.result.1 c.totals-fourth.result.1 _
    c.sum.ensures c.sum-2.ensures c.sum-totals.ensures c.totals-first.ensures.totals c.totals-second.ensures.totals c.totals-third.ensures.totals c.totals-fourth.ensures.totals)

pub returns-clause-budget : goal.returns-clause-budget
returns-clause-budget g c =
    rw (c.sum-totals.ensures, c.sum-2.ensures, c.sum.ensures)
    (sums-in-budget (record { first = c.totals-first.result.1; second = c.totals-second.result.1; third = c.totals-third.result.1; fourth = c.totals-fourth.result.1 })
    c.totals-first.ensures.budget c.totals-second.ensures.budget c.totals-third.ensures.budget c.totals-fourth.ensures.budget)
