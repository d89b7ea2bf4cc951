use Rattle.std.proofs.Common.{◌≤◌, length, arith, refl, subst, sym, take_all, true≢false}
use Rattle.std.specs.List.{All}
use Rattle.std.proofs.lemmas.List.Elements.{All-get_or, All-more, All-nil}
use Rattle.play_workers.specs.Parts.{IsFine}
use Rattle.play_workers.specs.declared.worker.Worker.{Worker}
use Rattle.play_rounds.proofs.gather.are_fine.Goals as goal

pub loop-worker-init : goal.loop-worker-init
loop-worker-init c = All-nil (λ (w : Worker). IsFine w.outcome)

pub loop-worker-preserved : goal.loop-worker-preserved
loop-worker-preserved c =
    All-more (λ (w : Worker). IsFine w.outcome) c.args.workers.now c.loop-worker.worker-index c.worker-item.result c.loop-worker-test.true c.loop-worker.invariant
    (subst (λ (w : Worker). IsFine w.outcome) c.worker-item.is (c.if-not-is_fine.ensures.0 refl))

pub returns-then-not-is_fine : goal.returns-then-not-is_fine
returns-then-not-is_fine c = (
  λ no. absurd (true≢false (sym no)),
  λ all.
      let fine : IsFine c.worker-item.result.outcome = subst (λ (w : Worker). IsFine w.outcome) (sym c.worker-item.is)
      (All-get_or (λ (w : Worker). IsFine w.outcome) c.args.workers.now c.loop-worker.worker-index c.worker-item.result c.loop-worker-test.true all) in
      c.if-not-is_fine.ensures.1 fine,
)

pub returns : goal.returns
returns c =
    let end : length c.args.workers.now ≤ c.loop-worker.worker-index = (let no = c.loop-worker-test.false in omega (arith, no)) in
    (λ is. subst (All (λ (w : Worker). IsFine w.outcome)) (take_all c.loop-worker.worker-index c.args.workers.now end) c.loop-worker.invariant, λ all. refl)
