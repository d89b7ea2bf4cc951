use Rattle.std.proofs.Common.{subst}
use Rattle.flight_cache.specs.Shards.{CachePassView, EachBegins}
use Rattle.flight_cache.proofs.cache.Cache.join.Goals as goal

pub returns-clause-begins : goal.returns-clause-begins
returns-clause-begins g c =
    subst (λ (p : CachePassView g.row.M-Key.Denot g.row.M-Tag.Denot). EachBegins p (record { first = c.join.result; second = c.join-2.result; third = c.join-3.result; fourth = c.join-4.result })) c.pass.view_is
    (record { first = c.join.ensures.begins.0; second = c.join-2.ensures.begins.0; third = c.join-3.ensures.begins.0; fourth = c.join-4.ensures.begins.0 })

pub returns-clause-begins_other : goal.returns-clause-begins_other
returns-clause-begins_other g c =
    subst (λ (p : CachePassView g.row.M-Key.Denot g.row.M-Tag.Denot). EachBegins p (record { first = c.join.result; second = c.join-2.result; third = c.join-3.result; fourth = c.join-4.result })) c.other.view_is
    (record { first = c.join.ensures.begins.1; second = c.join-2.ensures.begins.1; third = c.join-3.ensures.begins.1; fourth = c.join-4.ensures.begins.1 })
