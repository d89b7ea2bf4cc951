use Rattle.std.proofs.Common.{All, map}
use Rattle.std.specs.Arc.{arc_value}
use Rattle.ass_events.specs.Ranges.{IsEvent}
use Rattle.test_vectors.proofs.writing.events_of.Given as goal

abbrev pub invariant-loop-part : goal.invariant-loop-part
invariant-loop-part l = All IsEvent (map arc_value l.events.items)
