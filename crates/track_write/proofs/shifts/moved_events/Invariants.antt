use Rattle.std.proofs.Common.{◌≡◌, ◌++◌, drop, map}
use Rattle.std.specs.Arc.{arc_value}
use Rattle.std.specs.List.{All}
use Rattle.ass_events.specs.Ranges.{IsEvent}
use Rattle.track_write.specs.Shifts.{later_event, first_outside}
use Rattle.track_write.proofs.shifts.moved_events.Given as goal

abbrev pub invariant-loop-event : goal.invariant-loop-event
invariant-loop-event l = record {
  inside : first_outside l.by (map arc_value (drop l.event-index l.events)) ≡ first_outside l.by (map arc_value l.events);
  done : map arc_value l.all.items ++ map (later_event l.by) (map arc_value (drop l.event-index l.events)) ≡ map (later_event l.by) (map arc_value l.events);
  sound : All IsEvent (map arc_value l.all.items);
}
