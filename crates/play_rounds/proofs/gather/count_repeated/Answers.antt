use Rattle.std.proofs.Common.{arith, ap}
use Rattle.std.proofs.lemmas.List.Sums.{sum_by_more, sum_by_more_le}
use Rattle.play_workers.specs.Parts.{told_repeats}
use Rattle.play_workers.specs.declared.worker.Worker.{Worker}
use Rattle.play_rounds.proofs.gather.count_repeated.Goals as goal

pub overflow_add-count : goal.overflow_add-count
overflow_add-count c =
    let more = sum_by_more_le (λ (w : Worker). told_repeats w.outcome) c.args.workers.now c.loop-worker.worker-index c.worker-item.result c.loop-worker-test.true in
    let is = ap (λ (w : Worker). told_repeats w.outcome) c.worker-item.is in
    omega (arith, more, is, c.repeated-count.ensures, c.loop-worker.invariant, c.requires)

pub loop-worker-preserved : goal.loop-worker-preserved
loop-worker-preserved c =
    let more = sum_by_more (λ (w : Worker). told_repeats w.outcome) c.args.workers.now c.loop-worker.worker-index c.worker-item.result c.loop-worker-test.true in
    let is = ap (λ (w : Worker). told_repeats w.outcome) c.worker-item.is in
    omega (arith, more, is, c.repeated-count.ensures, c.loop-worker.invariant)
