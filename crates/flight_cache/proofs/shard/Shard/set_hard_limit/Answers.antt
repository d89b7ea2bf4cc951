use Rattle.std.proofs.Common.{◌≡◌, true, false, refl, Some, None, ap, sym, subst, ◌∙◌}
use Rattle.evict_core.specs.Machine.{State, holds_all}
use Rattle.flight_cache.specs.Calls.{ShardPassView}
use Rattle.flight_cache.specs.declared.kept.Entry.TheVariants.{Hard}
use Rattle.flight_cache.proofs.Standing.{stands-hard, stands-unchanged, gives-turn, shown-here}
use Rattle.flight_cache.proofs.shard.Shard.set_hard_limit.Goals as goal

pub give-pass-requires-clause-value : goal.give-pass-requires-clause-value
give-pass-requires-clause-value g c =
    let is = c.if-set_hard_limit.true in
    stands-hard g.M.Made.meaning c.args.self.now.tag g.M.Key.PartialEq.eq g.met.M.Key.Eq.laws g.met.M.Made.same_key c.args.pass c.take-turn.result c.take-turn.ensures.turn c.value_mut.result.now c.value_mut.ensures.value
    c.args.hard c.requires.hard (sym c.set_hard_limit.ensures.holds ∙ is) c.set_hard_limit.new.self (c.set_hard_limit.ensures.set is 0)

pub returns-then-set_hard_limit : goal.returns-then-set_hard_limit
returns-then-set_hard_limit g c =
    gives-turn g.M.Made.meaning c.args.self.now.tag g.M.Key.PartialEq.eq g.met.M.Key.Eq.laws g.met.M.Made.same_key c.args.pass c.take-turn.result c.take-turn.ensures.turn
    c.args.self.now c.give-pass.result (Some (Hard c.args.hard)) refl c.take-turn.ensures.legal c.give-pass.ensures.legal c.give-pass.ensures.pass

pub give-requires-clause-value : goal.give-requires-clause-value
give-requires-clause-value g c =
    stands-unchanged g.M.Made.meaning c.args.self.now.tag g.M.Key.PartialEq.eq g.met.M.Key.Eq.laws g.met.M.Made.same_key c.args.pass c.take-turn.result c.take-turn.ensures.turn c.value_mut.result.now c.value_mut.ensures.value
    c.set_hard_limit.new.self (c.set_hard_limit.ensures.refused c.if-set_hard_limit.false)

pub returns : goal.returns
returns g c =
    let left = shown-here g.M.Made.meaning c.args.self.now.tag g.M.Key.PartialEq.eq g.met.M.Key.Eq.laws g.met.M.Made.same_key c.args.pass c.take-turn.result c.take-turn.ensures.turn c.value_mut.result.now c.value_mut.ensures.value
    c.give.result (ap (λ (p : ShardPassView g.row.M-Key.Denot g.row.M-Tag.Denot). p.seen) c.give.ensures.pass) in (
      gives-turn g.M.Made.meaning c.args.self.now.tag g.M.Key.PartialEq.eq g.met.M.Key.Eq.laws g.met.M.Made.same_key c.args.pass c.take-turn.result c.take-turn.ensures.turn
          c.args.self.now c.give.result None refl c.take-turn.ensures.legal c.give.ensures.legal c.give.ensures.pass,
      subst (λ (s : State g.row.M-Key.Denot g.row.M-Value.Denot). holds_all c.args.hard s.entries ≡ false) left (sym c.set_hard_limit.ensures.holds ∙ c.if-set_hard_limit.false),
    )
