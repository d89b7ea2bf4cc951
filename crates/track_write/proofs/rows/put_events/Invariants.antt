use Rattle.std.proofs.Common.{◌≡◌, ◌++◌, drop, map, flat_map}
use Rattle.std.specs.Arc.{arc_value}
use Rattle.track_write.specs.Rows.{ended, dialogue_line}
use Rattle.track_write.proofs.rows.put_events.Given as goal

abbrev pub invariant-loop-event : goal.invariant-loop-event
invariant-loop-event l =
    l.text.items ++ flat_map ended (map dialogue_line (map arc_value (drop l.event-index l.events)))
    ≡ l.initial.text.items ++ flat_map ended (map dialogue_line (map arc_value l.events))
