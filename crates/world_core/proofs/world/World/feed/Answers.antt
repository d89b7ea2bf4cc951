use Rattle.std.proofs.Common.{List}
use Rattle.ass_events.specs.Events.{event_of}
use Rattle.ass_events.specs.Histories.{Entry}
use Rattle.world_core.specs.Replies.{IsFedReply}
use Rattle.world_core.specs.Steps.{after_chunk}
use Rattle.world_core.specs.declared.steps.Reply.{Reply}
use Rattle.world_core.proofs.Telling.{made-track}
use Rattle.world_core.proofs.world.World.feed.Goals as goal

pub feed-requires-clause-sound : goal.feed-requires-clause-sound
feed-requires-clause-sound c = c.requires.told.1.sound

pub returns : goal.returns
returns c =
    let chunk = c.args.chunk.now in
    made-track c.args.self.now c.feed.new.track (λ (history : List Entry). after_chunk history (event_of chunk.bytes chunk.start chunk.duration))
    (λ (history : List Entry) (r : Reply). IsFedReply history (event_of chunk.bytes chunk.start chunk.duration) r) c.feed.result c.feed.ensures.sound c.feed.ensures.err c.feed.ensures.history c.feed.ensures.reply
