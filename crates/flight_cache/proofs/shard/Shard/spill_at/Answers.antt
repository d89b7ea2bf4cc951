use Rattle.std.proofs.Common.{◌≡◌, ℕ, false, refl, sym, subst, [], ◌∷◌}
use Rattle.evict_core.specs.Machine as machine
use Rattle.flight_cache.specs.Meaning.{entry_cost}
use Rattle.flight_cache.specs.Histories.{value_under}
use Rattle.flight_cache.specs.Calls.{GivesSteps}
use Rattle.flight_cache.specs.declared.kept.Entry.TheVariants.{Spill}
use Rattle.flight_cache.specs.declared.kept.Kept.{Kept}
use Rattle.flight_cache.proofs.Standing.{some-flies, stands-spill, gives-key}
use Rattle.flight_cache.proofs.shard.Shard.spill_at.Goals as goal

pub fail-requires : goal.fail-requires
fail-requires g c = some-flies g.M.Made.meaning c.args.self.now.tag g.M.Key.PartialEq.eq g.met.M.Key.Eq.laws g.met.M.Made.same_key c.args.before.value c.args.turn c.requires.turn c.value_mut.result.now c.value_mut.ensures.value c.args.key.now c.args.key.now refl c.requires.open

pub give-pass-requires-clause-value : goal.give-pass-requires-clause-value
give-pass-requires-clause-value g c =
    let full = subst (λ (z : Kept g.row.M.Denot g.row.M-Key.Denot g.row.M-Value.Denot g.row.M-Tag.Denot). machine.can_fill z.entries c.args.cost ≡ false) (sym c.value_mut.ensures.value) c.requires.full in
    stands-spill g.M.Made.meaning c.args.self.now.tag g.M.Key.PartialEq.eq g.met.M.Key.Eq.laws g.met.M.Made.same_key c.args.before.value c.args.turn c.requires.turn c.value_mut.result.now c.value_mut.ensures.value
    c.of.result c.args.key.now c.of.ensures c.requires.shard c.requires.open c.args.cost c.requires.cost full c.fail.new.self (c.fail.ensures 0)

pub returns : goal.returns
returns g c =
    subst (λ (n : ℕ). GivesSteps g.M.Key.PartialEq.eq g.M.Made.meaning c.args.self.now c.args.before.value c.give-pass.result (machine.Spill c.args.key.now n ∷ [])) (sym c.requires.cost)
    (gives-key g.M.Made.meaning c.args.self.now.tag g.M.Key.PartialEq.eq g.met.M.Key.Eq.laws g.met.M.Made.same_key c.args.before.value c.args.turn c.requires.turn
    Spill (λ z. machine.Spill z (entry_cost g.M.Made.meaning z (value_under g.M.Made.meaning c.args.self.now.tag z))) (λ k. refl)
    c.of.result c.args.key.now c.of.ensures c.args.self.now c.give-pass.result refl c.requires.legal c.give-pass.ensures.legal c.give-pass.ensures.pass)
