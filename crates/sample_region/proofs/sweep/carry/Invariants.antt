use Rattle.sample_region.proofs.CarryLemmas.{HasMovedOn}
use Rattle.sample_region.proofs.sweep.carry.Given as goal

abbrev pub invariant-loop-live : goal.invariant-loop-live
invariant-loop-live l = HasMovedOn l.live-index l.initial.active l.active
