use Rattle.std.proofs.Common.{◌≡◌, map, take}
use Rattle.std.specs.Arc.{arc_value}
use Rattle.near_events.specs.Spans.{spans_from}
use Rattle.track_history.specs.Tellings.{events_of}
use Rattle.track_history.proofs.Places.{AreEventsAt}
use Rattle.track_history.proofs.live_events.LiveEvents.near.Given as goal

abbrev pub invariant-loop-span : goal.invariant-loop-span
invariant-loop-span l = record {
  at : AreEventsAt (events_of l.self) (take l.span-index l.span-items) (map arc_value l.events.items);
  spans : l.spans.items ≡ spans_from 0 (map arc_value l.events.items);
}
