use Rattle.play_rounds.proofs.Hands.{AreHandedTo}
use Rattle.play_rounds.proofs.round.hand_out.Given as goal

abbrev pub invariant-loop-worker : goal.invariant-loop-worker
invariant-loop-worker l = AreHandedTo l.renderer l.fn.first l.initial.workers l.workers l.worker-index l.first
