use Rattle.std.proofs.Common.{refl, Some}
use Rattle.flight_cache.specs.declared.kept.Entry.TheVariants.{Limits}
use Rattle.flight_cache.proofs.Standing.{stands-limits, gives-turn}
use Rattle.flight_cache.proofs.shard.Shard.set_limits.Goals as goal

pub give-pass-requires-clause-value : goal.give-pass-requires-clause-value
give-pass-requires-clause-value g c =
    stands-limits g.M.Made.meaning c.args.self.now.tag g.M.Key.PartialEq.eq g.met.M.Key.Eq.laws g.met.M.Made.same_key c.args.pass c.take-turn.result c.take-turn.ensures.turn c.value_mut.result.now c.value_mut.ensures.value
    c.args.entries c.args.budget c.requires.least c.requires.most c.requires.budget c.set_limits.new.self (c.set_limits.ensures 0)

pub returns : goal.returns
returns g c =
    gives-turn g.M.Made.meaning c.args.self.now.tag g.M.Key.PartialEq.eq g.met.M.Key.Eq.laws g.met.M.Made.same_key c.args.pass c.take-turn.result c.take-turn.ensures.turn
    c.args.self.now c.give-pass.result (Some (Limits c.args.entries c.args.budget)) refl c.take-turn.ensures.legal c.give-pass.ensures.legal c.give-pass.ensures.pass
