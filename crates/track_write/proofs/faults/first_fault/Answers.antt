use Rattle.std.proofs.Common.{sym, subst}
use Rattle.std.specs.Arc.{arc_value}
use Rattle.ass_events.specs.Ranges.{IsEvent}
use Rattle.track_write.proofs.ShiftLemmas.{at_item}
use Rattle.track_write.proofs.faults.first_fault.Goals as goal

pub event_fault-requires : goal.event_fault-requires
event_fault-requires c = subst IsEvent (sym c.deref.ensures) (at_item arc_value c.args.events.now c.loop-event.event-index c.event-item.result c.requires c.loop-event-test.true c.event-item.is)
