use Rattle.std.proofs.Common.{sym, subst}
use Rattle.std.specs.Arc.{arc_value}
use Rattle.ass_events.specs.Ranges.{IsEvent}
use Rattle.track_write.proofs.ShiftLemmas.{at_item}
use Rattle.track_write.proofs.rows.put_events.Goals as goal

pub put_event-requires : goal.put_event-requires
put_event-requires c = subst IsEvent (sym c.deref.ensures) (at_item arc_value c.args.events.now c.loop-event.event-index c.event-item.result c.requires c.loop-event-test.true c.event-item.is)
