use Rattle.std.proofs.Common.{◌≡◌, sum_by, take}
use Rattle.play_workers.specs.Parts.{told_repeats}
use Rattle.play_workers.specs.declared.worker.Worker.{Worker}
use Rattle.play_rounds.proofs.gather.count_repeated.Given as goal

abbrev pub invariant-loop-worker : goal.invariant-loop-worker
invariant-loop-worker l = l.count ≡ sum_by (λ (w : Worker). told_repeats w.outcome) (take l.worker-index l.workers)
