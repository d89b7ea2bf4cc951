use Rattle.event_places.proofs.WalkLemmas.{Walked}
use Rattle.event_places.proofs.boxes.shift_clear.Given as goal

abbrev pub invariant-loop-step : goal.invariant-loop-step
invariant-loop-step l = Walked l.stand l.boxes l.shift l.step
