use Rattle.std.proofs.Common.{◌≡◌, map, take}
use Rattle.std.specs.Arc.{arc_value}
use Rattle.near_events.specs.Spans.{spans_from}
use Rattle.near_events.proofs.spans.all_spans.Given as goal

abbrev pub invariant-loop-event : goal.invariant-loop-event
invariant-loop-event l = l.spans.items ≡ spans_from 0 (map arc_value (take l.event-index l.events))
