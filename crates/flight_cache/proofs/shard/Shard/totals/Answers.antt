use Rattle.std.proofs.Common.{refl, None}
use Rattle.flight_cache.proofs.Home.{stays_in_budget}
use Rattle.flight_cache.proofs.Standing.{gives-turn}
use Rattle.flight_cache.proofs.shard.Shard.totals.Goals as goal

pub returns-clause-pass : goal.returns-clause-pass
returns-clause-pass g c =
    gives-turn g.M.Made.meaning c.args.self.now.tag g.M.Key.PartialEq.eq g.met.M.Key.Eq.laws g.met.M.Made.same_key c.args.pass c.take-turn.result c.take-turn.ensures.turn
    c.args.self.now c.give.result None refl c.take-turn.ensures.legal c.give.ensures.legal c.give.ensures.pass

pub returns-clause-budget : goal.returns-clause-budget
returns-clause-budget g c =
    let home = stays_in_budget g.M.Key.PartialEq.eq g.met.M.Key.Eq.laws g.M.Made.meaning g.row.M.Denot c.args.self.now.tag c.take-turn.result.value c.take-turn.result.list c.take-turn.ensures.turn.turn_of.value in
    rw (c.totals-totals.ensures, c.value.ensures) home
