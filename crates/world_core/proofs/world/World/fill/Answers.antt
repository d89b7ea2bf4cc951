use Rattle.std.proofs.Common.{◌≡◌}
use Rattle.world_core.specs.Caches.{ActorCachesView, filled}
use Rattle.world_core.specs.Holdings.{holding_place}
use Rattle.world_core.specs.Keys.{equal_world_keys, world_meaning}
use Rattle.world_core.specs.Replies.{done_where}
use Rattle.world_core.specs.Steps.{at_place}
use Rattle.world_core.specs.Tellings.{WorldTag}
use Rattle.world_core.specs.declared.world_keys.WorldKey.{WorldKey}
use Rattle.world_core.specs.declared.world_keys.WorldValue.{WorldValue}
use Rattle.world_core.specs.declared.steps.Reply.{Reply}
use Rattle.world_core.proofs.Telling.{caches-of, made-caches}
use Rattle.world_core.proofs.world.World.fill.Goals as goal

pub fill-requires-clause-caches : goal.fill-requires-clause-caches
fill-requires-clause-caches c = caches-of c.args.self.now c.requires.0 c.requires.1

pub returns : goal.returns
returns c =
    made-caches c.args.self.now c.fill.new.caches
    (λ (caches : ActorCachesView WorldKey WorldValue WorldTag). at_place caches.tickets (filled equal_world_keys world_meaning) (holding_place c.args.actor c.args.i caches.tickets) caches)
    (λ (caches : ActorCachesView WorldKey WorldValue WorldTag) (r : Reply). r ≡ done_where (holding_place c.args.actor c.args.i caches.tickets)) (c.fill.result) c.fill.ensures.caches c.fill.ensures.err c.fill.ensures.state c.fill.ensures.reply
