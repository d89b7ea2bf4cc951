use Rattle.std.proofs.Common.{◌≡◌, Err, rules}
use Rattle.std.specs.Arc.{arc_value}
use Rattle.track_history.proofs.LocalTrackLemmas.{offered_front, offered_more, short_at}
use Rattle.track_history.proofs.local_track.LocalTrack.offer_all.Goals as goal

pub offer_one-requires : goal.offer_one-requires
offer_one-requires c = short_at arc_value c.args.events.now c.loop-event.event-index c.event-item.result c.requires c.loop-event-test.true c.event-item.is

pub loop-event-preserved : goal.loop-event-preserved
loop-event-preserved c =
    offered_more arc_value c.args.events.now c.loop-event.event-index c.event-item.result c.args.self.now c.loop-event.self _ c.loop-event-test.true c.event-item.is c.loop-event.invariant c.in_ok-offer_one.ensures.ok

pub returns-in_err-offer_one-clause-err : goal.returns-in_err-offer_one-clause-err
returns-in_err-offer_one-clause-err c =
    let same : c.from_residual.result ≡ Err c.in_err-offer_one.field-0.0 = search rules in
    rw same (offered_front arc_value c.args.events.now c.loop-event.event-index c.args.self.now c.loop-event.self _ c.loop-event.invariant c.in_err-offer_one.ensures.err)
