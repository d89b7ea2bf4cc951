use Rattle.std.proofs.Common.{◌≡◌, Ok}
use Rattle.world_core.specs.Caches.{ActorCachesView, unpinned_at}
use Rattle.world_core.specs.Holdings.{holding_place}
use Rattle.world_core.specs.Keys.{equal_world_keys}
use Rattle.world_core.specs.Replies.{done_where}
use Rattle.world_core.specs.Steps.{at_place}
use Rattle.world_core.specs.Tellings.{WorldTag}
use Rattle.world_core.specs.declared.world_keys.WorldKey.{WorldKey}
use Rattle.world_core.specs.declared.world_keys.WorldValue.{WorldValue}
use Rattle.world_core.specs.declared.steps.Reply.{Reply}
use Rattle.world_core.proofs.Telling.{caches-of, made-caches}
use Rattle.world_core.proofs.world.World.unpin.Goals as goal

pub unpin-requires : goal.unpin-requires
unpin-requires c = caches-of c.args.self.now c.requires.0 c.requires.1

pub returns : goal.returns
returns c =
    made-caches c.args.self.now c.unpin.new.caches
    (λ (caches : ActorCachesView WorldKey WorldValue WorldTag). at_place caches.pins (unpinned_at equal_world_keys) (holding_place c.args.actor c.args.i caches.pins) caches)
    (λ (caches : ActorCachesView WorldKey WorldValue WorldTag) (r : Reply). r ≡ done_where (holding_place c.args.actor c.args.i caches.pins)) (Ok c.unpin.result) c.unpin.ensures.caches tt c.unpin.ensures.state c.unpin.ensures.reply
