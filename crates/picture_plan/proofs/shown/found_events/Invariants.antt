use Rattle.std.proofs.Common.{map}
use Rattle.std.specs.Arc.{arc_value}
use Rattle.picture_plan.specs.ShownEvents.{AreShownPlaces}
use Rattle.picture_plan.proofs.shown.found_events.Given as goal

abbrev pub invariant-loop-place : goal.invariant-loop-place
invariant-loop-place l = AreShownPlaces (map arc_value l.events) l.placed l.t l.place l.shown.items
