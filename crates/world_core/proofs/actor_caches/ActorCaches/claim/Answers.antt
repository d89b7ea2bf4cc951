use Rattle.std.proofs.Common.{List, [], ◌∷◌, ◌++◌, ap, ◌∙◌}
use Rattle.world_core.specs.declared.holding.Holding.{Holding}
use Rattle.world_core.proofs.Calls.{Fields, have-claim}
use Rattle.world_core.proofs.actor_caches.ActorCaches.claim.Goals as goal

pub invariant_of-self-2 : goal.invariant_of-self-2
invariant_of-self-2 g c =
    have-claim g.M.Key.PartialEq.eq g.met.M.Key.Eq.laws g.M.Made.meaning (Fields c.self.inside.tag.value c.self.inside.shards.items c.self.inside.tickets.items c.self.inside.pins.items) c.args.self.now c.self.invariant c.self.view_is c.args.holding c.index_mut.result.now c.claim-claimed.new.self c.requires.shard c.index_mut.ensures.value c.in_ok-key.key _ c.in_ok-key.ensures
    (c.push_reserved.ensures.items ∙ ap (λ (l : List (Holding g.row.M-Key.Denot)). l ++ c.args.holding ∷ []) c.in_ok-reserve.ensures.items) c.requires.claims c.in_ok-claimed.ensures.ok
