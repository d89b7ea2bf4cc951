use Rattle.play_workers.specs.Parts.{images_by}
use Rattle.play_workers.specs.declared.worker.Worker.{Worker}
use Rattle.play_rounds.proofs.Puts.{flat_ended, flat_written, nothing_written}
use Rattle.play_rounds.proofs.gather.put_images.Goals as goal

pub loop-worker-init : goal.loop-worker-init
loop-worker-init g c = nothing_written (g.F.Sink.state c.args.frames.now) (g.F.Sink.state c.args.frames.now) (g.F.Sink.state c.args.frames.now)

pub loop-worker-preserved : goal.loop-worker-preserved
loop-worker-preserved g c =
    flat_written (λ (w : Worker). images_by w.outcome) c.args.workers.now c.loop-worker.worker-index c.worker-item.result c.loop-worker-test.true c.worker-item.is
    (g.F.Sink.state c.args.frames.now) (g.F.Sink.state c.loop-worker.frames) (g.F.Sink.state c.put_outcome.new.frames)
    c.loop-worker.invariant (rw c.in-Done.is at c.put_outcome.ensures)

pub returns-in_default : goal.returns-in_default
returns-in_default g c =
    flat_ended (λ (w : Worker). images_by w.outcome) c.args.workers.now c.loop-worker.worker-index c.worker-item.result c.loop-worker-test.true c.worker-item.is
    (g.F.Sink.state c.args.frames.now) (g.F.Sink.state c.loop-worker.frames) (g.F.Sink.state c.put_outcome.new.frames)
    c.loop-worker.invariant c.put_outcome.result c.in_default.not-Done c.put_outcome.ensures
