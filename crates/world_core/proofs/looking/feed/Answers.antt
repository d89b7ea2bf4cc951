use Rattle.std.proofs.Common.{◌≡◌, Ok, Err, arith, rules, to_z-of_z, w64}
use Rattle.std.specs.Int.RustNames.{FitsSigned}
use Rattle.ass_events.proofs.LawLemmas.{chunk_gives_event}
use Rattle.ass_events.proofs.TextLemmas.{chunk_fits}
use Rattle.ass_events.specs.Events.{event_of}
use Rattle.ass_events.specs.declared.event.ChunkRefusal.TheVariants.{Malformed}
use Rattle.world_core.proofs.Feeding.{event-reply, event-tells, malformed-reply, refused-tells}
use Rattle.world_core.proofs.looking.feed.Goals as goal

pub feed_event-requires-clause-event : goal.feed_event-requires-clause-event
feed_event-requires-clause-event c = chunk_gives_event _ _ _ _ c.in-Ok.ensures

pub feed_event-requires-clause-short : goal.feed_event-requires-clause-short
feed_event-requires-clause-short c = let fits = chunk_fits _ _ _ _ (rw c.as_slice.ensures at c.in-Ok.ensures) in omega (arith, fits, c.requires.short)

pub returns-in-Ok-clause-reply : goal.returns-in-Ok-clause-reply
returns-in-Ok-clause-reply c = λ history t.
    let chunk = c.args.chunk.now in
    let start : FitsSigned w64 chunk.start = search rules in
    let duration : FitsSigned w64 chunk.duration = search rules in
    let read : event_of chunk.bytes chunk.start chunk.duration ≡ Ok c.in-Ok.event = rw (c.as_slice.ensures, to_z-of_z start, to_z-of_z duration) at c.in-Ok.ensures in
    event-reply history _ c.in-Ok.event c.feed_event.result read (c.feed_event.ensures.reply history t)

pub returns-in-Ok-clause-history : goal.returns-in-Ok-clause-history
returns-in-Ok-clause-history c = λ history t.
    let chunk = c.args.chunk.now in
    let start : FitsSigned w64 chunk.start = search rules in
    let duration : FitsSigned w64 chunk.duration = search rules in
    let read : event_of chunk.bytes chunk.start chunk.duration ≡ Ok c.in-Ok.event = rw (c.as_slice.ensures, to_z-of_z start, to_z-of_z duration) at c.in-Ok.ensures in
    event-tells history _ c.in-Ok.event c.feed_event.result c.feed_event.new.track read (c.feed_event.ensures.history history t)

pub returns-in-Err-Malformed-clause-reply : goal.returns-in-Err-Malformed-clause-reply
returns-in-Err-Malformed-clause-reply c = λ history t.
    let chunk = c.args.chunk.now in
    let start : FitsSigned w64 chunk.start = search rules in
    let duration : FitsSigned w64 chunk.duration = search rules in
    let read : event_of chunk.bytes chunk.start chunk.duration ≡ Err (Malformed c.in-Err-Malformed.field c.in-Err-Malformed.place) = rw (c.as_slice.ensures, to_z-of_z start, to_z-of_z duration, c.in-Err-Malformed.field-0-is) at c.in-Err-Malformed.ensures in
    rw c.in-Err-Malformed.field-0-is (malformed-reply history _ c.in-Err-Malformed.field c.in-Err-Malformed.place read)

pub returns-in-Err-Malformed-clause-history : goal.returns-in-Err-Malformed-clause-history
returns-in-Err-Malformed-clause-history c = λ history t.
    let chunk = c.args.chunk.now in
    let start : FitsSigned w64 chunk.start = search rules in
    let duration : FitsSigned w64 chunk.duration = search rules in
    let read : event_of chunk.bytes chunk.start chunk.duration ≡ Err (Malformed c.in-Err-Malformed.field c.in-Err-Malformed.place) = rw (c.as_slice.ensures, to_z-of_z start, to_z-of_z duration, c.in-Err-Malformed.field-0-is) at c.in-Err-Malformed.ensures in
    refused-tells history _ c.args.track.now (Malformed c.in-Err-Malformed.field c.in-Err-Malformed.place) read t
