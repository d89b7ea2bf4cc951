use Rattle.play_rounds.proofs.Takes.{AreTakenTo}
use Rattle.play_rounds.proofs.round.take_back.Given as goal

abbrev pub invariant-loop-worker : goal.invariant-loop-worker
invariant-loop-worker l = AreTakenTo l.renderer l.fn.first l.initial.workers l.workers l.worker-index l.first
