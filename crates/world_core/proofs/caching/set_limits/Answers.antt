use Rattle.std.proofs.Common.{arith}
use Rattle.world_core.proofs.Shards.{caches-limited, caches-same}
use Rattle.world_core.proofs.caching.set_limits.Goals as goal

pub set_limits-requires-clause-shard : goal.set_limits-requires-clause-shard
set_limits-requires-clause-shard c = omega (arith, c.first_shard.ensures.within, c.requires.shard, c.requires.caches.shards)

pub returns-clause-state : goal.returns-clause-state
returns-clause-state c = rw c.first_shard.ensures.first at c.set_limits.ensures

pub returns-clause-caches : goal.returns-clause-caches
returns-clause-caches c = caches-same c.args.fonts.now _ c.set_limits.new.self c.set_limits.ensures (caches-limited c.args.fonts.now c.args.caches.now c.requires.caches _ _ _)
