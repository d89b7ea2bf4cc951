use Rattle.std.proofs.Common.{take}
use Rattle.std.specs.List.{All}
use Rattle.play_workers.specs.Parts.{IsFine}
use Rattle.play_workers.specs.declared.worker.Worker.{Worker}
use Rattle.play_rounds.proofs.gather.are_fine.Given as goal

abbrev pub invariant-loop-worker : goal.invariant-loop-worker
invariant-loop-worker l = All (λ (w : Worker). IsFine w.outcome) (take l.worker-index l.workers)
