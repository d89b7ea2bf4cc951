use Rattle.world_core.proofs.Calls.{Fields, have-more}
use Rattle.world_core.proofs.actor_caches.ActorCaches.add_shard.Goals as goal

pub invariant_of-self-2 : goal.invariant_of-self-2
invariant_of-self-2 g c =
    have-more g.M.Key.PartialEq.eq g.met.M.Key.Eq.laws g.M.Made.meaning (Fields c.self.inside.tag.value c.self.inside.shards.items c.self.inside.tickets.items c.self.inside.pins.items) c.args.self.now c.self.invariant c.self.view_is c.args.entries c.args.budget c.in_ok-shard.shard _ c.in_ok-shard.ensures c.in_ok-push.ensures.items
