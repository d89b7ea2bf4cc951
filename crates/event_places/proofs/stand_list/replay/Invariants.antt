use Rattle.event_places.proofs.ReplayLemmas.{Replayed}
use Rattle.event_places.proofs.stand_list.replay.Given as goal

abbrev pub invariant-loop-stand : goal.invariant-loop-stand
invariant-loop-stand l = Replayed l.list l.shown.items l.shifts.items l.stand-index
