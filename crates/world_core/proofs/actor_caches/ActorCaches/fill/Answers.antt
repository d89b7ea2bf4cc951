use Rattle.std.proofs.Common.{◌≡◌, List, [], ◌∷◌, ◌++◌, length, vec_len, ap, ◌∙◌, rules, arith}
use Rattle.std.specs.Arc.{arc_value}
use Rattle.flight_cache.specs.Meaning.{entry_cost}
use Rattle.world_core.specs.declared.holding.Holding.{Holding}
use Rattle.world_core.proofs.Calls.{Fields, ticket-shard, ticket-made, is-filled, have-filled}
use Rattle.world_core.proofs.actor_caches.ActorCaches.fill.Goals as goal

pub index_mut-requires : goal.index_mut-requires
index_mut-requires g c =
    let n : vec_len c.self.inside.shards ≡ length c.self.inside.shards.items = search rules in
    omega (arith, n, ticket-shard g.M.Key.PartialEq.eq g.met.M.Key.Eq.laws g.M.Made.meaning (Fields c.self.inside.tag.value c.self.inside.shards.items c.self.inside.tickets.items c.self.inside.pins.items) c.args.self.now c.self.invariant c.self.view_is c.args.place c.remove-holding.result c.requires.place c.remove-holding.ensures.value)

pub fill-requires-clause-flying : goal.fill-requires-clause-flying
fill-requires-clause-flying g c =
    ticket-made g.M.Key.PartialEq.eq g.met.M.Key.Eq.laws g.M.Made.meaning (Fields c.self.inside.tag.value c.self.inside.shards.items c.self.inside.tickets.items c.self.inside.pins.items) c.args.self.now c.self.invariant c.self.view_is c.args.place c.remove-holding.result c.requires.place c.remove-holding.ensures.value c.index_mut.result.now c.index_mut.ensures.value

pub invariant_of-self-2 : goal.invariant_of-self-2
invariant_of-self-2 g c =
    have-filled g.M.Key.PartialEq.eq g.met.M.Key.Eq.laws g.M.Made.meaning (Fields c.self.inside.tag.value c.self.inside.shards.items c.self.inside.tickets.items c.self.inside.pins.items) c.args.self.now c.self.invariant c.self.view_is c.args.place c.remove-holding.result c.requires.place c.remove-holding.ensures.value c.index_mut.result.now c.index_mut.ensures.value c.fill.new.self _ c.remove-holding.ensures.items _
    (c.push_reserved.ensures.items ∙ ap (λ (l : List (Holding g.row.M-Key.Denot)). l ++ c.remove-holding.result ∷ []) c.in_ok-reserve.ensures.items) c.entry_cost-cost.result (arc_value c.args.value) (c.entry_cost-cost.ensures ∙ ap (λ (v : g.row.M-Value.Denot). entry_cost g.M.Made.meaning c.remove-holding.result.key v) c.deref.ensures)
    c.requires.value (c.fill.ensures c.remove-holding.result.actor)

pub returns-clause-ok : goal.returns-clause-ok
returns-clause-ok g c =
    is-filled g.M.Key.PartialEq.eq g.met.M.Key.Eq.laws g.M.Made.meaning (Fields c.self.inside.tag.value c.self.inside.shards.items c.self.inside.tickets.items c.self.inside.pins.items) c.args.self.now c.self.invariant c.self.view_is c.args.place c.remove-holding.result c.requires.place c.remove-holding.ensures.value c.index_mut.result.now c.index_mut.ensures.value c.fill.new.self _ c.remove-holding.ensures.items _
    (c.push_reserved.ensures.items ∙ ap (λ (l : List (Holding g.row.M-Key.Denot)). l ++ c.remove-holding.result ∷ []) c.in_ok-reserve.ensures.items) c.entry_cost-cost.result (arc_value c.args.value) (c.entry_cost-cost.ensures ∙ ap (λ (v : g.row.M-Value.Denot). entry_cost g.M.Made.meaning c.remove-holding.result.key v) c.deref.ensures)
    c.requires.value (c.fill.ensures c.remove-holding.result.actor)
