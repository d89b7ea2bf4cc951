use Rattle.std.proofs.Common.{◌≡◌, true, refl, sym, subst, [], ◌∷◌}
use Rattle.std.specs.Arc.{arc_value}
use Rattle.evict_core.specs.Machine as machine
use Rattle.flight_cache.specs.Meaning.{entry_cost}
use Rattle.flight_cache.specs.Histories.{value_under}
use Rattle.flight_cache.specs.Calls.{GivesSteps}
use Rattle.flight_cache.specs.declared.kept.Entry.TheVariants.{Fill}
use Rattle.flight_cache.specs.declared.kept.Kept.{Kept}
use Rattle.flight_cache.proofs.Standing.{some-flies, stands-fill, gives-key}
use Rattle.flight_cache.proofs.shard.Shard.fill_at.Goals as goal

pub fill-requires-clause-flying : goal.fill-requires-clause-flying
fill-requires-clause-flying g c =
    some-flies g.M.Made.meaning c.args.self.now.tag g.M.Key.PartialEq.eq g.met.M.Key.Eq.laws g.met.M.Made.same_key c.args.before.value c.args.turn c.requires.turn c.value_mut.result.now c.value_mut.ensures.value c.args.key.now c.args.key.now refl c.requires.open

pub give-requires-clause-value : goal.give-requires-clause-value
give-requires-clause-value g c =
    let room = subst (λ (z : Kept g.row.M.Denot g.row.M-Key.Denot g.row.M-Value.Denot g.row.M-Tag.Denot). machine.can_fill z.entries c.args.cost ≡ true) (sym c.value_mut.ensures.value) c.requires.room in
    stands-fill g.M.Made.meaning c.args.self.now.tag g.M.Key.PartialEq.eq g.met.M.Key.Eq.laws g.met.M.Made.same_key c.args.before.value c.args.turn c.requires.turn c.value_mut.result.now c.value_mut.ensures.value
    c.of.result c.args.key.now c.args.key.now c.of.ensures refl c.requires.shard c.requires.open c.args.cost (arc_value c.args.kept) c.requires.cost c.requires.kept room c.fill.new.self (c.fill.ensures 0)

pub returns : goal.returns
returns g c =
    let kind = λ (v : g.row.M-Value.Denot). machine.Fill c.args.key.now (entry_cost g.M.Made.meaning c.args.key.now v) v in
    subst (λ (v : g.row.M-Value.Denot). GivesSteps g.M.Key.PartialEq.eq g.M.Made.meaning c.args.self.now c.args.before.value c.give.result (kind v ∷ [])) (sym c.requires.kept)
    (gives-key g.M.Made.meaning c.args.self.now.tag g.M.Key.PartialEq.eq g.met.M.Key.Eq.laws g.met.M.Made.same_key c.args.before.value c.args.turn c.requires.turn
    Fill (λ z. machine.Fill z (entry_cost g.M.Made.meaning z (value_under g.M.Made.meaning c.args.self.now.tag z)) (value_under g.M.Made.meaning c.args.self.now.tag z)) (λ k. refl)
    c.of.result c.args.key.now c.of.ensures c.args.self.now c.give.result refl c.requires.legal c.give.ensures.legal c.give.ensures.pass)
