use Rattle.std.specs.Arc.{arc_value}
use Rattle.world_core.proofs.Calls.{Fields, if-made}
use Rattle.world_core.proofs.actor_caches.ActorCaches.value_of.Goals as goal

pub returns-clause-made : goal.returns-clause-made
returns-clause-made g c =
    if-made g.M.Key.PartialEq.eq g.met.M.Key.Eq.laws g.M.Made.meaning (Fields c.self.inside.tag.value c.self.inside.shards.items c.self.inside.tickets.items c.self.inside.pins.items) c.args.self.now c.self.invariant c.self.view_is arc_value g.met.M.Made.same_key c.args.shard c.index.result.now c.requires c.index.ensures c.args.key.now c.value_of.result c.value_of.ensures
