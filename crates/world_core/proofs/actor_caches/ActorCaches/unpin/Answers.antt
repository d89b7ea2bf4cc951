use Rattle.std.proofs.Common.{◌≡◌, length, vec_len, rules, arith}
use Rattle.world_core.proofs.Calls.{Fields, pin-shard, pin-counted, is-unpinned, have-unpinned}
use Rattle.world_core.proofs.actor_caches.ActorCaches.unpin.Goals as goal

pub index_mut-requires : goal.index_mut-requires
index_mut-requires g c =
    let n : vec_len c.self.inside.shards ≡ length c.self.inside.shards.items = search rules in
    omega (arith, n, pin-shard g.M.Key.PartialEq.eq g.met.M.Key.Eq.laws g.M.Made.meaning (Fields c.self.inside.tag.value c.self.inside.shards.items c.self.inside.tickets.items c.self.inside.pins.items) c.args.self.now c.self.invariant c.self.view_is c.args.place c.remove-holding.result c.requires c.remove-holding.ensures.value)

pub unpin-requires : goal.unpin-requires
unpin-requires g c =
    pin-counted g.M.Key.PartialEq.eq g.met.M.Key.Eq.laws g.M.Made.meaning (Fields c.self.inside.tag.value c.self.inside.shards.items c.self.inside.tickets.items c.self.inside.pins.items) c.args.self.now c.self.invariant c.self.view_is c.args.place c.remove-holding.result c.requires c.remove-holding.ensures.value c.index_mut.result.now c.index_mut.ensures.value

pub invariant_of-self : goal.invariant_of-self
invariant_of-self g c =
    have-unpinned g.M.Key.PartialEq.eq g.met.M.Key.Eq.laws g.M.Made.meaning (Fields c.self.inside.tag.value c.self.inside.shards.items c.self.inside.tickets.items c.self.inside.pins.items) c.args.self.now c.self.invariant c.self.view_is c.args.place c.remove-holding.result c.requires c.remove-holding.ensures.value c.index_mut.result.now c.index_mut.ensures.value c.unpin.new.self _ c.remove-holding.ensures.items (c.unpin.ensures c.remove-holding.result.actor)

pub returns : goal.returns
returns g c =
    is-unpinned g.M.Key.PartialEq.eq g.met.M.Key.Eq.laws g.M.Made.meaning (Fields c.self.inside.tag.value c.self.inside.shards.items c.self.inside.tickets.items c.self.inside.pins.items) c.args.self.now c.self.invariant c.self.view_is c.args.place c.remove-holding.result c.requires c.remove-holding.ensures.value c.index_mut.result.now c.index_mut.ensures.value c.unpin.new.self _ c.remove-holding.ensures.items (c.unpin.ensures c.remove-holding.result.actor)
