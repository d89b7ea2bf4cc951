use Rattle.event_places.proofs.ShiftLemmas.{Hops}
use Rattle.event_places.proofs.shift.hop.Given as goal

abbrev pub invariant-loop-other : goal.invariant-loop-other
invariant-loop-other l = Hops l.b l.others l.down l.from l.shift l.other-index
