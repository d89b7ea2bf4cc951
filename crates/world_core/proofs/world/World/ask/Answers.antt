use Rattle.world_core.specs.Caches.{ActorCachesView, asked}
use Rattle.world_core.specs.Keys.{equal_world_keys}
use Rattle.world_core.specs.Replies.{IsAskReply}
use Rattle.world_core.specs.Steps.{held_key}
use Rattle.world_core.specs.Tellings.{WorldTag}
use Rattle.world_core.specs.declared.world_keys.WorldKey.{WorldKey}
use Rattle.world_core.specs.declared.world_keys.WorldValue.{WorldValue}
use Rattle.world_core.specs.declared.steps.Reply.{Reply}
use Rattle.world_core.proofs.Telling.{caches-of, made-caches}
use Rattle.world_core.proofs.world.World.ask.Goals as goal

pub ask-requires-clause-caches : goal.ask-requires-clause-caches
ask-requires-clause-caches c = caches-of c.args.self.now c.requires.told.0 c.requires.told.1

pub returns : goal.returns
returns c =
    made-caches c.args.self.now c.ask.new.caches (asked equal_world_keys (held_key c.args.actor c.args.key.now)) (λ (caches : ActorCachesView WorldKey WorldValue WorldTag) (r : Reply). IsAskReply caches c.args.actor c.args.key.now r) c.ask.result
    c.ask.ensures.caches c.ask.ensures.err c.ask.ensures.state c.ask.ensures.reply
