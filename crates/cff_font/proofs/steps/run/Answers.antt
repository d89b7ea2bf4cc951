use Rattle.std.proofs.Common.{◌≡◌, true, false, Some, None, sym, ◌∙◌, subst, arith, rules}
use Rattle.std.specs.Prelude.{IfSome}
use Rattle.cff_font.specs.Glyphs.{max_steps}
use Rattle.cff_font.specs.Machines.{behind_step}
use Rattle.cff_font.specs.Ranges.{IsMachine}
use Rattle.cff_font.proofs.Turns.{run-broken, run-done, run-next, run-spent}
use Rattle.cff_font.proofs.steps.run.Goals as goal

pub returns-then-machine : goal.returns-then-machine
returns-then-machine c =
    let done : c.loop-k.machine.is_done ≡ true = search rules in
    sym (run-done c.args.bytes.now c.args.program.now max_steps c.loop-k._k c.loop-k.machine c.loop-k-test.true done) ∙ c.loop-k.invariant.value

pub loop-k-preserved : goal.loop-k-preserved
loop-k-preserved c =
    let goes : c.loop-k.machine.is_done ≡ false = search rules in
    let here : Some c.in-Some.behind ≡ behind_step c.args.bytes.now c.args.program.now c.loop-k.machine = sym c.in-Some.is ∙ c.in_ok-behind.ensures.value in
    record {
      value = sym (run-next c.args.bytes.now c.args.program.now max_steps c.loop-k._k c.loop-k.machine c.in-Some.behind c.loop-k-test.true goes here) ∙ c.loop-k.invariant.value;
      machine = subst (λ behind. IfSome behind IsMachine) c.in-Some.is c.in_ok-behind.ensures.within;
    }

pub returns-in-None : goal.returns-in-None
returns-in-None c =
    let goes : c.loop-k.machine.is_done ≡ false = search rules in
    let here : None ≡ behind_step c.args.bytes.now c.args.program.now c.loop-k.machine = sym c.in-None.is ∙ c.in_ok-behind.ensures.value in
    sym (run-broken c.args.bytes.now c.args.program.now max_steps c.loop-k._k c.loop-k.machine c.loop-k-test.true goes here) ∙ c.loop-k.invariant.value

pub returns : goal.returns
returns c = sym (run-spent c.args.bytes.now c.args.program.now max_steps c.loop-k._k c.loop-k.machine (omega arith)) ∙ c.loop-k.invariant.value
