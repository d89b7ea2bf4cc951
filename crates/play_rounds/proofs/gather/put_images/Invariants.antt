use Rattle.std.proofs.Common.{take}
use Rattle.std.specs.List.{flat_map}
use Rattle.play_workers.specs.Parts.{images_by}
use Rattle.play_workers.specs.declared.worker.Worker.{Worker}
use Rattle.play_rounds.specs.Outputs.{AreWritten}
use Rattle.play_rounds.proofs.gather.put_images.Given as goal

abbrev pub invariant-loop-worker : goal.invariant-loop-worker
invariant-loop-worker g l = AreWritten (flat_map (λ (w : Worker). images_by w.outcome) (take l.worker-index l.workers)) (g.F.Sink.state l.initial.frames) (g.F.Sink.state l.frames)
