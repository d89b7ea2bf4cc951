use Rattle.std.proofs.Common.{◌≡◌, ℕ, length, arith, refl, subst}
use Rattle.play_rounds.specs.Passes.{AreRendersSplit}
use Rattle.play_rounds.proofs.Hands.{handed_more, handed_none}
use Rattle.play_rounds.proofs.round.hand_out.Goals as goal

pub loop-worker-init : goal.loop-worker-init
loop-worker-init c = handed_none c.args.renderer.now c.args.first c.args.workers.now c.requires.pass c.requires.first c.requires.idle

pub loop-worker-preserved : goal.loop-worker-preserved
loop-worker-preserved c = handed_more c.args.renderer.now c.args.first c.args.workers.now c.loop-worker.workers c.loop-worker.worker-index c.loop-worker.first
    c.split-kept.result.0 c.split-kept.result.1 c.worker-item.result _ c.loop-worker.invariant (omega arith) c.split-kept.ensures c.replace-before.ensures.after refl

pub returns-clause-passes : goal.returns-clause-passes
returns-clause-passes c = λ passes named.
    let long = c.loop-worker.invariant.same_length in
    let all : c.loop-worker.worker-index ≡ length c.args.workers.now = omega arith in
    subst (λ (n : ℕ). AreRendersSplit c.args.renderer.now c.args.first n passes c.loop-worker.first) all (c.loop-worker.invariant.split passes (λ i d lt. named i d (omega arith)))
