use Rattle.std.proofs.Common.{◌≡◌, ◌+◌, Ok, refl}
use Rattle.world_core.specs.Caches.{ActorCachesView, with_limits}
use Rattle.world_core.specs.Keys.{equal_world_keys, first_shard}
use Rattle.world_core.specs.Tellings.{WorldTag}
use Rattle.world_core.specs.declared.world_keys.WorldKey.{WorldKey}
use Rattle.world_core.specs.declared.world_keys.WorldValue.{WorldValue}
use Rattle.world_core.specs.declared.steps.Reply.{Reply}
use Rattle.world_core.specs.declared.steps.Reply.TheVariants.{Done}
use Rattle.world_core.proofs.Telling.{caches-of, made-caches}
use Rattle.world_core.proofs.world.World.set_limits.Goals as goal

pub set_limits-requires-clause-caches : goal.set_limits-requires-clause-caches
set_limits-requires-clause-caches c = caches-of c.args.self.now c.requires.told.0 c.requires.told.1

pub returns : goal.returns
returns c =
    made-caches c.args.self.now c.set_limits.new.caches (with_limits equal_world_keys (first_shard c.args.kind + c.args.shard) c.args.entries c.args.budget)
    (λ (caches : ActorCachesView WorldKey WorldValue WorldTag) (r : Reply). r ≡ Done) (Ok Done) c.set_limits.ensures.caches tt c.set_limits.ensures.state refl
