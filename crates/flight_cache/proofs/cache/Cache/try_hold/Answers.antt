use Rattle.std.proofs.Common.{ℕ, subst}
use Rattle.flight_cache.specs.Shards.{CacheView, CachePassView}
use Rattle.flight_cache.specs.Pinning.{IsTurnOut}
use Rattle.flight_cache.proofs.Trying.{out-back, gone-turns}
use Rattle.flight_cache.proofs.cache.Cache.try_hold.Goals as goal

pub returns-in-Err-hold_both-clause-out : goal.returns-in-Err-hold_both-clause-out
returns-in-Err-hold_both-clause-out g c =
    let eq = g.M.Key.PartialEq.eq in let meaning = g.M.Made.meaning in let shards = c.args.shards.now.items in
    let cache : CacheView g.row.M-Tag.Denot = record { shards = record { first = c.self.inside.first; second = c.self.inside.second; third = c.self.inside.third; fourth = c.self.inside.fourth }; tag = c.self.inside.first.tag.tag.value } in
    let pass : CachePassView g.row.M-Key.Denot g.row.M-Tag.Denot = record { first = c.pass.inside.first; second = c.pass.inside.second; third = c.pass.inside.third; fourth = c.pass.inside.fourth } in
    let after : CachePassView g.row.M-Key.Denot g.row.M-Tag.Denot = record { first = c.let_go.result; second = c.let_go-in-Err-hold_both.result; third = c.in-Err-hold_both.third; fourth = c.in-Err-hold_both.fourth } in
    subst (λ (p : CachePassView g.row.M-Key.Denot g.row.M-Tag.Denot). (n : ℕ) × IsTurnOut eq meaning c.args.self.now p shards after n) c.pass.view_is
    (subst (λ (v : CacheView g.row.M-Tag.Denot). (n : ℕ) × IsTurnOut eq meaning v pass shards after n) c.self.view_is
    (out-back eq meaning shards cache c.self.invariant pass c.let_go.result c.let_go-in-Err-hold_both.result c.in-Err-hold_both.third c.in-Err-hold_both.fourth
    (gone-turns eq g.met.M.Key.Eq.laws g.met.M.Made.same_key meaning shards c.self.inside.first c.pass.inside.first c.let_go.result c.in-Ok.first c.in-Ok.ensures.held.0 c.let_go.ensures)
    (gone-turns eq g.met.M.Key.Eq.laws g.met.M.Made.same_key meaning shards c.self.inside.second c.pass.inside.second c.let_go-in-Err-hold_both.result c.in-Ok.second c.in-Ok.ensures.held.1 c.let_go-in-Err-hold_both.ensures)
    c.in-Err-hold_both.ensures.out))
