use Rattle.std.proofs.Common.{◌≡◌, Ok}
use Rattle.world_core.specs.Caches.{ActorCachesView, failed}
use Rattle.world_core.specs.Holdings.{holding_place}
use Rattle.world_core.specs.Keys.{equal_world_keys}
use Rattle.world_core.specs.Replies.{done_where}
use Rattle.world_core.specs.Steps.{at_place}
use Rattle.world_core.specs.Tellings.{WorldTag}
use Rattle.world_core.specs.declared.world_keys.WorldKey.{WorldKey}
use Rattle.world_core.specs.declared.world_keys.WorldValue.{WorldValue}
use Rattle.world_core.specs.declared.steps.Reply.{Reply}
use Rattle.world_core.proofs.Telling.{caches-of, made-caches}
use Rattle.world_core.proofs.world.World.fail.Goals as goal

pub fail-requires : goal.fail-requires
fail-requires c = caches-of c.args.self.now c.requires.0 c.requires.1

pub returns : goal.returns
returns c =
    made-caches c.args.self.now c.fail.new.caches
    (λ (caches : ActorCachesView WorldKey WorldValue WorldTag). at_place caches.tickets (failed equal_world_keys) (holding_place c.args.actor c.args.i caches.tickets) caches)
    (λ (caches : ActorCachesView WorldKey WorldValue WorldTag) (r : Reply). r ≡ done_where (holding_place c.args.actor c.args.i caches.tickets)) (Ok c.fail.result) c.fail.ensures.caches tt c.fail.ensures.state c.fail.ensures.reply
