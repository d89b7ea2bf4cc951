use Rattle.world_core.proofs.Calls.{Fields, is-limited, have-limited}
use Rattle.world_core.proofs.actor_caches.ActorCaches.set_limits.Goals as goal

pub invariant_of-self : goal.invariant_of-self
invariant_of-self g c =
    have-limited g.M.Key.PartialEq.eq g.met.M.Key.Eq.laws g.M.Made.meaning (Fields c.self.inside.tag.value c.self.inside.shards.items c.self.inside.tickets.items c.self.inside.pins.items) c.args.self.now c.self.invariant c.self.view_is c.args.shard c.args.entries c.args.budget c.requires.shard c.index_mut.result.now c.set_limits.new.self c.index_mut.ensures.value (c.set_limits.ensures 0) c.requires.least c.requires.most c.requires.budget

pub returns : goal.returns
returns g c =
    is-limited g.M.Key.PartialEq.eq g.met.M.Key.Eq.laws g.M.Made.meaning (Fields c.self.inside.tag.value c.self.inside.shards.items c.self.inside.tickets.items c.self.inside.pins.items) c.args.self.now c.self.invariant c.self.view_is c.args.shard c.args.entries c.args.budget c.requires.shard c.index_mut.result.now c.set_limits.new.self c.index_mut.ensures.value (c.set_limits.ensures 0)
