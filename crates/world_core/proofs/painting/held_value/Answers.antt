use Rattle.std.proofs.Common.{arith}
use Rattle.std.specs.Arc.{arc_value}
use Rattle.world_core.specs.Keys.{world_shard}
use Rattle.world_core.proofs.HeldValues.{value-held, value-there}
use Rattle.world_core.proofs.Standing.{held-kept}
use Rattle.world_core.proofs.painting.held_value.Goals as goal

pub value_of-requires : goal.value_of-requires
value_of-requires c = omega (arith, c.world_shard-shard.ensures.below, c.requires)

pub returns-then-is_held-clause-held : goal.returns-then-is_held-clause-held
returns-then-is_held-clause-held c = value-held arc_value c.value_of.result _ (rw (c.world_shard-shard.ensures.shard, c.pins.ensures) at (c.is_held.ensures.some c.if-is_held.true))

pub returns-then-is_held-clause-value : goal.returns-then-is_held-clause-value
returns-then-is_held-clause-value c = c.value_of.ensures.made

pub returns-then-is_held-clause-none : goal.returns-then-is_held-clause-none
returns-then-is_held-clause-none c =
    value-there arc_value c.value_of.result _ _ _ (rw c.world_shard-shard.ensures.shard at c.value_of.ensures.here)
    (held-kept c.args.caches.now c.proof_histories.ensures c.args.actor (world_shard c.args.key.now) c.args.key.now (rw (c.world_shard-shard.ensures.shard, c.pins.ensures) at (c.is_held.ensures.some c.if-is_held.true)))

pub returns-clause-none : goal.returns-clause-none
returns-clause-none c = rw (c.world_shard-shard.ensures.shard, c.pins.ensures) at (c.is_held.ensures.none c.if-is_held.false)
