use Rattle.std.specs.Arc.{arc_value}
use Rattle.world_core.proofs.Feeding.{fed-reply, fed-tells}
use Rattle.world_core.proofs.looking.feed_event.Goals as goal

pub feed-requires-clause-event : goal.feed-requires-clause-event
feed-requires-clause-event c = rw c.in_ok-event.ensures.ok c.requires.event

pub feed-requires-clause-short : goal.feed-requires-clause-short
feed-requires-clause-short c = rw c.in_ok-event.ensures.ok c.requires.short

pub returns-clause-reply : goal.returns-clause-reply
returns-clause-reply c = λ history t.
    rw c.in_ok-event.ensures.ok at (fed-reply history (arc_value c.in_ok-event.event) c.feed.result (c.feed.ensures.answer history t) c.in_default.not-OutOfMemory)

pub returns-clause-history : goal.returns-clause-history
returns-clause-history c = λ history t.
    rw c.in_ok-event.ensures.ok at (fed-tells history (arc_value c.in_ok-event.event) c.feed.result (c.feed.ensures.answer history t) c.in_default.not-OutOfMemory c.feed.new.self (c.feed.ensures.history history t))

pub returns-in-OutOfMemory-clause-err : goal.returns-in-OutOfMemory-clause-err
returns-in-OutOfMemory-clause-err c = λ history t. rw c.in-OutOfMemory.is at (c.feed.ensures.history history t)
