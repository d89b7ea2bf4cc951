use Rattle.std.proofs.Common.{List, [], ◌∷◌, ◌++◌, ap, ◌∙◌}
use Rattle.world_core.specs.declared.holding.Holding.{Holding}
use Rattle.world_core.specs.Caches.{asked}
use Rattle.world_core.proofs.Calls.{Fields, is-hit, have-hit, is-crowded, have-crowded}
use Rattle.world_core.proofs.actor_caches.ActorCaches.ask.Goals.{in-Hit-1, in-Claimable-1}
use Rattle.world_core.proofs.actor_caches.ActorCaches.ask.Goals as goal

pub invariant_of-self-in-Hit : goal.invariant_of-self-in-Hit
invariant_of-self-in-Hit g c =
    have-hit g.M.Key.PartialEq.eq g.met.M.Key.Eq.laws g.M.Made.meaning (Fields c.self.inside.tag.value c.self.inside.shards.items c.self.inside.tickets.items c.self.inside.pins.items) c.args.self.now c.self.invariant c.self.view_is (record { actor = c.args.actor; shard = c.args.shard; key = c.in_ok-key.key }) c.index_mut.result.now c.ask.new.self c.requires c.index_mut.ensures.value _
    (c.push_reserved.ensures.items ∙ ap (λ (l : List (Holding g.row.M-Key.Denot)). l ++ (record { actor = c.args.actor; shard = c.args.shard; key = c.in_ok-key.key }) ∷ []) c.in_ok-reserve.ensures.items) c.in-Hit.ensures.0 (c.in-Hit.ensures.2 c.args.actor)

pub invariant_of-self-in-Crowded-1 : goal.invariant_of-self-in-Crowded-1
invariant_of-self-in-Crowded-1 g c =
    have-crowded g.M.Key.PartialEq.eq g.met.M.Key.Eq.laws g.M.Made.meaning (Fields c.self.inside.tag.value c.self.inside.shards.items c.self.inside.tickets.items c.self.inside.pins.items) c.args.self.now c.self.invariant c.self.view_is (record { actor = c.args.actor; shard = c.args.shard; key = c.in_ok-key.key }) c.index_mut.result.now c.ask.new.self c.requires c.index_mut.ensures.value _ c.in_ok-reserve.ensures.items c.in-Crowded.ensures.0 (c.in-Crowded.ensures.1 c.args.actor)

pub returns-in-Hit-clause-state : goal.returns-in-Hit-clause-state
returns-in-Hit-clause-state g c =
    let hit = is-hit g.M.Key.PartialEq.eq g.met.M.Key.Eq.laws g.M.Made.meaning (Fields c.self.inside.tag.value c.self.inside.shards.items c.self.inside.tickets.items c.self.inside.pins.items) c.args.self.now c.self.invariant c.self.view_is (record { actor = c.args.actor; shard = c.args.shard; key = c.in_ok-key.key }) c.index_mut.result.now c.ask.new.self c.requires c.index_mut.ensures.value _
    (c.push_reserved.ensures.items ∙ ap (λ (l : List (Holding g.row.M-Key.Denot)). l ++ (record { actor = c.args.actor; shard = c.args.shard; key = c.in_ok-key.key }) ∷ []) c.in_ok-reserve.ensures.items) c.in-Hit.ensures.0 (c.in-Hit.ensures.2 c.args.actor)
    ∙ ap (λ (k : g.row.M-Key.Denot). asked g.M.Key.PartialEq.eq (record { actor = c.args.actor; shard = c.args.shard; key = k }) c.args.self.now) c.in_ok-key.ensures in
    elim c.match-ask-2.branch [
      | in-Hit-1 w ↦ w.self-is ∙ hit
      | in-Claimable-1 w ↦ w.self-is ∙ hit
    ]

pub returns-in-Crowded-clause-state : goal.returns-in-Crowded-clause-state
returns-in-Crowded-clause-state g c =
    is-crowded g.M.Key.PartialEq.eq g.met.M.Key.Eq.laws g.M.Made.meaning (Fields c.self.inside.tag.value c.self.inside.shards.items c.self.inside.tickets.items c.self.inside.pins.items) c.args.self.now c.self.invariant c.self.view_is (record { actor = c.args.actor; shard = c.args.shard; key = c.in_ok-key.key }) c.index_mut.result.now c.ask.new.self c.requires c.index_mut.ensures.value _ c.in_ok-reserve.ensures.items c.in-Crowded.ensures.0 (c.in-Crowded.ensures.1 c.args.actor)
    ∙ ap (λ (k : g.row.M-Key.Denot). asked g.M.Key.PartialEq.eq (record { actor = c.args.actor; shard = c.args.shard; key = k }) c.args.self.now) c.in_ok-key.ensures
