use Rattle.std.proofs.Common.{sym, subst}
use Rattle.flight_cache.specs.Calls.{ShardPassView, HasLegal}
use Rattle.flight_cache.proofs.Standing.{stands-none, none-legal}
use Rattle.flight_cache.proofs.shard.Shard.open.Goals as goal

pub open-requires-2 : goal.open-requires-2
open-requires-2 g c =
    stands-none g.M.Made.meaning (record { tag = c.of.result; shard = c.args.number; entries = c.args.entries; budget = c.args.budget }) g.M.Key.PartialEq.eq g.met.M.Key.Eq.laws g.met.M.Made.same_key c.in_ok-open.field-0 c.in_ok-open.ensures

pub invariant_of-result-in-Ok : goal.invariant_of-result-in-Ok
invariant_of-result-in-Ok g c =
    let cell = c.in-Ok.cell in
    subst (λ (p : ShardPassView g.row.M-Key.Denot g.row.M-Tag.Denot). HasLegal g.M.Key.PartialEq.eq g.M.Made.meaning p.tag p.seen) (sym c.in-Ok.ensures.ok.1) (none-legal g.M.Made.meaning cell.tag g.M.Key.PartialEq.eq g.met.M.Key.Eq.laws g.met.M.Made.same_key)
