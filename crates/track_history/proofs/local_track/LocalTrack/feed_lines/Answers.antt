use Rattle.std.proofs.Common.{[], length, arith}
use Rattle.ass_events.proofs.GivenEvents.{all_events}
use Rattle.track_history.specs.ShortEvents.{IsShortEvent}
use Rattle.track_history.proofs.local_track.LocalTrack.feed_lines.Goals as goal

pub offer_all-requires : goal.offer_all-requires
offer_all-requires c =
    let script = c.args.script.now in
    rw (c.as_slice.ensures.value, c.in_ok-events.ensures.events)
    (all_events script (length script.lines) IsShortEvent
    (λ i e below is. record { is_event = c.lines_give_events.ensures.ranges script i e c.requires.script below is; texts = omega (arith, c.texts_fit.ensures.lines script i e is, c.requires.short i [] below) }))
