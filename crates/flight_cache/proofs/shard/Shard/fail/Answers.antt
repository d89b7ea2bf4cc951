use Rattle.std.proofs.Common.{refl, ap, ◌∙◌}
use Rattle.evict_core.specs.Machine as machine
use Rattle.flight_cache.specs.Calls.{TicketView}
use Rattle.flight_cache.specs.declared.kept.Entry.TheVariants.{Fail}
use Rattle.flight_cache.proofs.Standing.{some-flies, stands-fail, gives-key}
use Rattle.flight_cache.proofs.shard.Shard.fail.Goals as goal

pub fail-requires : goal.fail-requires
fail-requires g c =
    some-flies g.M.Made.meaning c.args.self.now.tag g.M.Key.PartialEq.eq g.met.M.Key.Eq.laws g.met.M.Made.same_key c.args.pass c.take-turn.result c.take-turn.ensures.turn c.value_mut.result.now c.value_mut.ensures.value
    c.ticket.inside.key c.args.ticket.key (ap (λ (t : TicketView g.row.M-Key.Denot). t.key) c.ticket.view_is) c.requires.open

pub give-pass-requires-clause-value : goal.give-pass-requires-clause-value
give-pass-requires-clause-value g c =
    stands-fail g.M.Made.meaning c.args.self.now.tag g.M.Key.PartialEq.eq g.met.M.Key.Eq.laws g.met.M.Made.same_key c.args.pass c.take-turn.result c.take-turn.ensures.turn c.value_mut.result.now c.value_mut.ensures.value
    c.of.result c.ticket.inside.key c.args.ticket.key c.of.ensures (ap (λ (t : TicketView g.row.M-Key.Denot). t.key) c.ticket.view_is) c.requires.shard c.requires.open c.fail.new.self (c.fail.ensures 0)

pub returns : goal.returns
returns g c =
    gives-key g.M.Made.meaning c.args.self.now.tag g.M.Key.PartialEq.eq g.met.M.Key.Eq.laws g.met.M.Made.same_key c.args.pass c.take-turn.result c.take-turn.ensures.turn
    Fail machine.Fail (λ k. refl) c.of.result c.args.ticket.key (c.of.ensures ∙ ap (λ (t : TicketView g.row.M-Key.Denot). t.key) c.ticket.view_is) c.args.self.now c.give-pass.result refl c.take-turn.ensures.legal c.give-pass.ensures.legal c.give-pass.ensures.pass
