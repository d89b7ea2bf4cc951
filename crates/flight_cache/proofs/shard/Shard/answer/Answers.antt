use Rattle.std.proofs.Common.{refl, sym, ap, ◌∙◌, None}
use Rattle.evict_core.specs.Machine as machine
use Rattle.flight_cache.specs.declared.kept.Entry.TheVariants.{Hit, Claim, Crowded}
use Rattle.flight_cache.specs.declared.kept.Kept.{Kept}
use Rattle.flight_cache.proofs.Claiming.{on-ok, on-err, claimed}
use Rattle.flight_cache.proofs.Standing.{stands-asked, stands-unchanged, hit-value, gives-key, gives-turn, short-ask}
use Rattle.flight_cache.proofs.shard.Shard.answer.Goals as goal

pub give-pass-requires-clause-value : goal.give-pass-requires-clause-value
give-pass-requires-clause-value g c =
    stands-asked g.M.Made.meaning c.args.self.now.tag g.M.Key.PartialEq.eq g.met.M.Key.Eq.laws g.met.M.Made.same_key c.args.before.value c.args.turn c.requires.turn c.value_mut.result.now c.value_mut.ensures.value
    Hit machine.Hit (λ k. refl) c.of.result c.args.key c.of.ensures c.requires.shard c.in-Hit.ensures.0 c.ask.new.self (c.in-Hit.ensures.2 c.args.turn.pass.number)

pub returns-in-Hit-clause-asked : goal.returns-in-Hit-clause-asked
returns-in-Hit-clause-asked g c = (
  gives-key g.M.Made.meaning c.args.self.now.tag g.M.Key.PartialEq.eq g.met.M.Key.Eq.laws g.met.M.Made.same_key c.args.before.value c.args.turn c.requires.turn
      Hit (λ z. machine.Ask z machine.Hit) (λ k. refl) c.of.result c.args.key c.of.ensures c.args.self.now c.give-pass.result refl c.requires.legal c.give-pass.ensures.legal c.give-pass.ensures.pass,
  refl,
  hit-value g.M.Made.meaning c.args.self.now.tag g.M.Key.PartialEq.eq g.met.M.Key.Eq.laws g.met.M.Made.same_key c.args.before.value c.args.turn c.requires.turn c.value_mut.result.now c.value_mut.ensures.value c.args.key c.in-Hit.value.value c.in-Hit.ensures.1,
)

pub returns-in-Crowded-clause-asked : goal.returns-in-Crowded-clause-asked
returns-in-Crowded-clause-asked g c =
    gives-key g.M.Made.meaning c.args.self.now.tag g.M.Key.PartialEq.eq g.met.M.Key.Eq.laws g.met.M.Made.same_key c.args.before.value c.args.turn c.requires.turn
    Crowded (λ z. machine.Ask z machine.Crowded) (λ k. refl) c.of-in-Crowded.result c.args.key c.of-in-Crowded.ensures c.args.self.now c.give-pass-in-Crowded.result refl c.requires.legal c.give-pass-in-Crowded.ensures.legal c.give-pass-in-Crowded.ensures.pass

pub give-pass-requires-in-Crowded-clause-value : goal.give-pass-requires-in-Crowded-clause-value
give-pass-requires-in-Crowded-clause-value g c =
    stands-asked g.M.Made.meaning c.args.self.now.tag g.M.Key.PartialEq.eq g.met.M.Key.Eq.laws g.met.M.Made.same_key c.args.before.value c.args.turn c.requires.turn c.value_mut.result.now c.value_mut.ensures.value
    Crowded machine.Crowded (λ k. refl) c.of-in-Crowded.result c.args.key c.of-in-Crowded.ensures c.requires.shard c.in-Crowded.ensures.0 c.ask.new.self (c.in-Crowded.ensures.1 c.args.turn.pass.number)

pub give-pass-requires-in-Flying-clause-value : goal.give-pass-requires-in-Flying-clause-value
give-pass-requires-in-Flying-clause-value g c = stands-unchanged g.M.Made.meaning c.args.self.now.tag g.M.Key.PartialEq.eq g.met.M.Key.Eq.laws g.met.M.Made.same_key c.args.before.value c.args.turn c.requires.turn c.value_mut.result.now c.value_mut.ensures.value c.ask.new.self c.in-Flying.ensures.1

pub give-pass-requires-in-OutOfMemory-clause-value : goal.give-pass-requires-in-OutOfMemory-clause-value
give-pass-requires-in-OutOfMemory-clause-value g c = stands-unchanged g.M.Made.meaning c.args.self.now.tag g.M.Key.PartialEq.eq g.met.M.Key.Eq.laws g.met.M.Made.same_key c.args.before.value c.args.turn c.requires.turn c.value_mut.result.now c.value_mut.ensures.value c.ask.new.self c.in-OutOfMemory.ensures.1

pub give-pass-requires-in_default-clause-value : goal.give-pass-requires-in_default-clause-value
give-pass-requires-in_default-clause-value g c = stands-unchanged g.M.Made.meaning c.args.self.now.tag g.M.Key.PartialEq.eq g.met.M.Key.Eq.laws g.met.M.Made.same_key c.args.before.value c.args.turn c.requires.turn c.value_mut.result.now c.value_mut.ensures.value c.ask.new.self c.in-Claimable.ensures.1

pub give-pass-requires-then-is_err-clause-value : goal.give-pass-requires-then-is_err-clause-value
give-pass-requires-then-is_err-clause-value g c =
    stands-unchanged g.M.Made.meaning c.args.self.now.tag g.M.Key.PartialEq.eq g.met.M.Key.Eq.laws g.met.M.Made.same_key c.args.before.value c.args.turn c.requires.turn c.value_mut.result.now c.value_mut.ensures.value c.claim-claimed.new.self
    (on-err c.claim-claimed.result _ (sym c.is_err.ensures.value ∙ c.if-is_err.true) c.claim-claimed.ensures.err ∙ (ap (λ (z : Kept g.row.M.Denot g.row.M-Key.Denot g.row.M-Value.Denot g.row.M-Tag.Denot). z.entries) c.value_mut-in-Claimable.ensures.value ∙ c.in-Claimable.ensures.1))

pub give-pass-requires-in-Claimable-clause-value : goal.give-pass-requires-in-Claimable-clause-value
give-pass-requires-in-Claimable-clause-value g c =
    stands-asked g.M.Made.meaning c.args.self.now.tag g.M.Key.PartialEq.eq g.met.M.Key.Eq.laws g.met.M.Made.same_key c.args.before.value c.args.turn c.requires.turn c.value_mut.result.now c.value_mut.ensures.value
    Claim machine.Claim (λ k. refl) c.of-in-Claimable.result c.args.key c.of-in-Claimable.ensures c.requires.shard c.in-Claimable.ensures.0 c.claim-claimed.new.self
    (claimed g.M.Key.PartialEq.eq c.claim-claimed.new.self c.value_mut-in-Claimable.result.now.entries c.value_mut.result.now.entries c.number-number.result c.args.turn.pass.number c.in-Some.own c.args.key
    (on-ok c.claim-claimed.result _ (sym c.is_err.ensures.value ∙ c.if-is_err.false) c.claim-claimed.ensures.ok) (ap (λ (z : Kept g.row.M.Denot g.row.M-Key.Denot g.row.M-Value.Denot g.row.M-Tag.Denot). z.entries) c.value_mut-in-Claimable.ensures.value ∙ c.in-Claimable.ensures.1) c.number-number.ensures (rw c.in-Some.is at c.requires.copy))

pub returns-else-is_err-clause-asked : goal.returns-else-is_err-clause-asked
returns-else-is_err-clause-asked g c = (
  gives-key g.M.Made.meaning c.args.self.now.tag g.M.Key.PartialEq.eq g.met.M.Key.Eq.laws g.met.M.Made.same_key c.args.before.value c.args.turn c.requires.turn
      Claim (λ z. machine.Ask z machine.Claim) (λ k. refl) c.of-in-Claimable.result c.args.key c.of-in-Claimable.ensures c.args.self.now c.give-pass-in-Claimable.result refl c.requires.legal c.give-pass-in-Claimable.ensures.legal c.give-pass-in-Claimable.ensures.pass,
  refl,
)

pub returns-in-Flying-clause-again : goal.returns-in-Flying-clause-again
returns-in-Flying-clause-again g c = (
  refl,
  tt,
  gives-turn g.M.Made.meaning c.args.self.now.tag g.M.Key.PartialEq.eq g.met.M.Key.Eq.laws g.met.M.Made.same_key c.args.before.value c.args.turn c.requires.turn
      c.args.self.now c.give-pass-in-Flying.result None refl c.requires.legal c.give-pass-in-Flying.ensures.legal c.give-pass-in-Flying.ensures.pass,
)

pub returns-in-OutOfMemory-clause-asked : goal.returns-in-OutOfMemory-clause-asked
returns-in-OutOfMemory-clause-asked g c =
    short-ask g.M.Made.meaning c.args.self.now.tag g.M.Key.PartialEq.eq g.met.M.Key.Eq.laws g.met.M.Made.same_key c.args.before.value c.args.turn c.requires.turn
    c.value_mut.result.now c.value_mut.ensures.value c.args.self.now c.give-pass-in-OutOfMemory.result refl c.requires.legal c.give-pass-in-OutOfMemory.ensures.legal c.give-pass-in-OutOfMemory.ensures.pass c.args.key machine.Hit refl c.in-OutOfMemory.ensures.0

pub returns-then-is_err-clause-asked : goal.returns-then-is_err-clause-asked
returns-then-is_err-clause-asked g c =
    short-ask g.M.Made.meaning c.args.self.now.tag g.M.Key.PartialEq.eq g.met.M.Key.Eq.laws g.met.M.Made.same_key c.args.before.value c.args.turn c.requires.turn
    c.value_mut.result.now c.value_mut.ensures.value c.args.self.now c.give-pass-then-is_err.result refl c.requires.legal c.give-pass-then-is_err.ensures.legal c.give-pass-then-is_err.ensures.pass c.args.key machine.Claim refl c.in-Claimable.ensures.0
