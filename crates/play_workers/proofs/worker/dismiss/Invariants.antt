use Rattle.std.proofs.Common.{All}
use Rattle.play_workers.specs.Parts.{HasNoPass}
use Rattle.play_workers.proofs.worker.dismiss.Given as goal

abbrev pub invariant-loop-worker : goal.invariant-loop-worker
invariant-loop-worker l = All HasNoPass l.workers.items

abbrev pub decreases-loop-worker : goal.decreases-loop-worker
decreases-loop-worker l = goal.left-loop-worker l
