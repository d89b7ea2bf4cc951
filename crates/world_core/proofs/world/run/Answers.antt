use Rattle.std.proofs.Common.{◌≡◌, List, take, refl, ◌∙◌, subst, arith}
use Rattle.std.specs.Arc.{arc_value}
use Rattle.std.proofs.lemmas.List.{take_all}
use Rattle.world_core.specs.Keys.{world_meaning}
use Rattle.world_core.specs.Laws.{KeepsLaws}
use Rattle.world_core.specs.Replies.{AreReplies}
use Rattle.world_core.specs.Steps.{after_steps}
use Rattle.world_core.specs.Tellings.{TellsWorld}
use Rattle.world_core.specs.declared.steps.Step.{Step}
use Rattle.world_core.proofs.Replying.{run-laws, run-replies, run-tells, step-valid}
use Rattle.world_core.proofs.Running.{pictures-of-first, run-of, run-of-first}
use Rattle.world_core.proofs.world.run.Goals as goal

pub step-requires-clause-told : goal.step-requires-clause-told
step-requires-clause-told c =
    let s = c.requires.told.0 in
    (after_steps world_meaning s (take c.loop-step.step-index c.args.steps.now), c.loop-step.invariant.tells s c.requires.told.1)

pub step-requires-clause-step : goal.step-requires-clause-step
step-requires-clause-step c = step-valid c.args.world.fonts c.loop-step.world.fonts c.args.steps.now c.loop-step.step-index c.step-item.result c.loop-step.invariant.fonts c.loop-step-test.true c.step-item.is c.requires.steps

pub returns-then-is_err-clause-err : goal.returns-then-is_err-clause-err
returns-then-is_err-clause-err c = λ s t.
    let i = c.loop-step.step-index in
    (i, c.loop-step-test.true, run-of-first c.args.world c.loop-step.world s t c.args.steps.now c.requires.steps i c.loop-step-test.true (c.loop-step.invariant.tells s t) (c.loop-step.invariant.laws s t))

pub returns-then-is_err-clause-inputs : goal.returns-then-is_err-clause-inputs
returns-then-is_err-clause-inputs c = (c.loop-step.invariant.script, c.loop-step.invariant.fonts)

pub returns-in-Err-clause-inputs : goal.returns-in-Err-clause-inputs
returns-in-Err-clause-inputs c = (c.in-Err.ensures.made.script ∙ c.loop-step.invariant.script, c.in-Err.ensures.made.fonts ∙ c.loop-step.invariant.fonts)

pub returns-in-Err-clause-err : goal.returns-in-Err-clause-err
returns-in-Err-clause-err c = λ s t.
    let i = c.loop-step.step-index in
    let told = c.in-Err.ensures.made.err (after_steps world_meaning s (take i c.args.steps.now)) (c.loop-step.invariant.tells s t) in
    (i, c.loop-step-test.true, run-of-first c.args.world c.step.new.self s t c.args.steps.now c.requires.steps i c.loop-step-test.true told (c.loop-step.invariant.laws s t))

pub loop-step-init : goal.loop-step-init
loop-step-init c = record {
  script = refl;
  fonts = refl;
  tells = λ s t. t;
  replies = λ s t. rw c.new-replies.ensures.items tt;
  laws = λ s t k within. let zero : k ≡ 0 = omega (arith, within) in rw zero (subst (KeepsLaws world_meaning) t.caches c.proof_laws.ensures);
}

pub loop-step-preserved : goal.loop-step-preserved
loop-step-preserved c =
    let kept = c.loop-step.invariant in
    let made = c.in-Ok.ensures.made in
    let steps = c.args.steps.now in
    let i = c.loop-step.step-index in
    let world = c.args.world in
    let old = c.loop-step.world in
    record {
      script = made.script ∙ kept.script;
      fonts = made.fonts ∙ kept.fonts;
      tells = λ s t. run-tells world old c.step.new.self kept.script kept.fonts steps i c.step-item.result c.in-Ok.reply c.loop-step-test.true c.step-item.is made s (kept.tells s t);
      replies = λ s t.
          rw (c.push_reserved.ensures.items, c.reserve.ensures.items)
          (run-replies world old c.step.new.self kept.script kept.fonts steps i c.step-item.result c.in-Ok.reply c.loop-step-test.true c.step-item.is made s (kept.tells s t) c.loop-step.replies.items (kept.replies s t));
      laws = λ s t. run-laws world old c.step.new.self kept.script kept.fonts steps i c.step-item.result c.in-Ok.reply c.loop-step-test.true c.step-item.is made s (kept.tells s t) (kept.laws s t) c.in-Ok.ensures.laws;
    }

pub returns-clause-state : goal.returns-clause-state
returns-clause-state c = λ s t.
    let i = c.loop-step.step-index in
    let steps = c.args.steps.now in
    run-of c.args.world c.loop-step.world s t steps c.requires.steps
    (subst (λ (xs : List Step). TellsWorld c.loop-step.world (after_steps world_meaning s xs)) (take_all i steps c.loop-step-test.false) (c.loop-step.invariant.tells s t))
    (λ k within. c.loop-step.invariant.laws s t k (omega (arith, within, c.loop-step-test.false)))

pub returns-clause-replies : goal.returns-clause-replies
returns-clause-replies c = λ s t.
    let w = c.args.world in
    subst (λ (xs : List Step). AreReplies (arc_value w.script) (arc_value w.fonts).fonts world_meaning s xs c.loop-step.replies.items) (take_all c.loop-step.step-index c.args.steps.now c.loop-step-test.false) (c.loop-step.invariant.replies s t)

pub returns-clause-shown : goal.returns-clause-shown
returns-clause-shown c = λ s t begins.
    let w = c.args.world in
    pictures-of-first (arc_value w.script) (arc_value w.fonts).fonts s c.args.steps.now c.loop-step.replies.items begins
    (subst (λ (xs : List Step). AreReplies (arc_value w.script) (arc_value w.fonts).fonts world_meaning s xs c.loop-step.replies.items) (take_all c.loop-step.step-index c.args.steps.now c.loop-step-test.false) (c.loop-step.invariant.replies s t))
