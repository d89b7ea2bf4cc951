use Rattle.std.proofs.Common.{refl, ap, ◌∙◌}
use Rattle.evict_core.specs.Machine as machine
use Rattle.flight_cache.specs.Calls.{PinView}
use Rattle.flight_cache.specs.declared.kept.Entry.TheVariants.{Unpin}
use Rattle.flight_cache.proofs.Standing.{pinned, stands-unpin, gives-key}
use Rattle.flight_cache.proofs.shard.Shard.unpin.Goals as goal

pub unpin-requires : goal.unpin-requires
unpin-requires g c =
    pinned g.M.Made.meaning c.args.self.now.tag g.M.Key.PartialEq.eq g.met.M.Key.Eq.laws g.met.M.Made.same_key c.args.pass c.take-turn.result c.take-turn.ensures.turn c.value_mut.result.now c.value_mut.ensures.value
    c.pin.inside.key c.args.pin.key (ap (λ (t : PinView g.row.M-Key.Denot g.row.M-Value.Denot). t.key) c.pin.view_is) c.requires.held

pub give-pass-requires-clause-value : goal.give-pass-requires-clause-value
give-pass-requires-clause-value g c =
    stands-unpin g.M.Made.meaning c.args.self.now.tag g.M.Key.PartialEq.eq g.met.M.Key.Eq.laws g.met.M.Made.same_key c.args.pass c.take-turn.result c.take-turn.ensures.turn c.value_mut.result.now c.value_mut.ensures.value
    c.of.result c.pin.inside.key c.args.pin.key c.of.ensures (ap (λ (t : PinView g.row.M-Key.Denot g.row.M-Value.Denot). t.key) c.pin.view_is) c.requires.shard c.requires.held c.unpin.new.self (c.unpin.ensures 0)

pub returns : goal.returns
returns g c =
    gives-key g.M.Made.meaning c.args.self.now.tag g.M.Key.PartialEq.eq g.met.M.Key.Eq.laws g.met.M.Made.same_key c.args.pass c.take-turn.result c.take-turn.ensures.turn
    Unpin machine.Unpin (λ k. refl) c.of.result c.args.pin.key (c.of.ensures ∙ ap (λ (t : PinView g.row.M-Key.Denot g.row.M-Value.Denot). t.key) c.pin.view_is) c.args.self.now c.give-pass.result refl c.take-turn.ensures.legal c.give-pass.ensures.legal c.give-pass.ensures.pass
