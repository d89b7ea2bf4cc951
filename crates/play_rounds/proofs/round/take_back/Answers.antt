use Rattle.std.proofs.Common.{◌≡◌, ℕ, length, arith, refl, subst, sym, ◌∙◌}
use Rattle.play_rounds.specs.Passes.{AreRendersJoined}
use Rattle.play_rounds.proofs.Takes.{idle_at, taken_more, taken_none}
use Rattle.play_rounds.proofs.round.take_back.Goals as goal

pub loop-worker-init : goal.loop-worker-init
loop-worker-init c = taken_none c.args.renderer.now c.args.first c.args.workers.now c.requires.pass c.requires.first c.requires.itself c.requires.passes

pub loop-worker-preserved : goal.loop-worker-preserved
loop-worker-preserved c = taken_more c.args.renderer.now c.args.first c.args.workers.now c.loop-worker.workers c.loop-worker.worker-index c.loop-worker.first c.in-Some.pass c.join-first.result c.worker-item.result _
    c.loop-worker.invariant (omega arith) (sym c.take.ensures.value ∙ c.in-Some.is) c.join-first.ensures.joined c.join-first.ensures.nothing c.take.ensures.after refl refl

pub join-first-requires-clause-idle : goal.join-first-requires-clause-idle
join-first-requires-clause-idle c = idle_at c.args.renderer.now c.args.first c.args.workers.now c.loop-worker.workers c.loop-worker.worker-index c.loop-worker.first c.in-Some.pass c.worker-item.result
    c.loop-worker.invariant (omega arith) (sym c.take.ensures.value ∙ c.in-Some.is)

pub returns-clause-joined : goal.returns-clause-joined
returns-clause-joined c = λ passes named.
    let long = c.loop-worker.invariant.same_length in
    let all : c.loop-worker.worker-index ≡ length c.args.workers.now = omega arith in
    subst (λ (n : ℕ). AreRendersJoined c.args.renderer.now c.args.first n passes c.loop-worker.first) all (c.loop-worker.invariant.joined passes named)
