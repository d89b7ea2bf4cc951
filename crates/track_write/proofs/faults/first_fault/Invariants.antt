use Rattle.std.proofs.Common.{◌≡◌, drop, map}
use Rattle.std.specs.Arc.{arc_value}
use Rattle.track_write.specs.Texts.{first_fault}
use Rattle.track_write.proofs.faults.first_fault.Given as goal

abbrev pub invariant-loop-event : goal.invariant-loop-event
invariant-loop-event l = first_fault (map arc_value (drop l.event-index l.events)) ≡ first_fault (map arc_value l.events)
