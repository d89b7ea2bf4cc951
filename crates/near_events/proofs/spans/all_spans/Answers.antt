use Rattle.std.proofs.Common.{◌≡◌, length, rules, arith}
use Rattle.std.specs.Arc.{arc_value}
use Rattle.ass_events.specs.Ranges.{IsEvent}
use Rattle.near_events.proofs.Lists.{all_read}
use Rattle.near_events.proofs.NearSpans.{spans_step}
use Rattle.near_events.proofs.spans.all_spans.Goals as goal

pub of-requires : goal.of-requires
of-requires c = rw c.deref.ensures (all_read arc_value IsEvent c.args.events.now c.loop-event.event-index c.event-item.result c.requires c.loop-event-test.true c.event-item.is)

pub loop-event-preserved : goal.loop-event-preserved
loop-event-preserved c =
    let count : c.len.result ≡ length c.loop-event.spans.items = first_of (search rules, omega (arith, c.len.ensures, c.loop-event.spans.ok.0), omega (arith, c.len.ensures, c.loop-event.spans.ok)) in
    spans_step arc_value c.args.events.now c.loop-event.event-index c.len.result c.event-item.result c.loop-event.spans.items c.push.new.self.items c.of.result c.deref.result.now c.loop-event-test.true
    c.event-item.is c.deref.ensures c.loop-event.invariant count c.of.ensures c.in_ok-push.ensures.items
