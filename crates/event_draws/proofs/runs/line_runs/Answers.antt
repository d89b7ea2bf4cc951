use Rattle.std.proofs.Common.{◌≡◌, sym, subst, ◌+◌, ◌-◌, ◌≤◌, length, take, drop, ◌∷◌, Some, arith}
use Rattle.std.specs.List.{All}
use Rattle.std.proofs.lemmas.List.{length-drop, take_rest}
use Rattle.std.proofs.lemmas.List.Elements.{All-push}
use Rattle.event_draws.specs.Draws.{IsDrawnRun}
use Rattle.event_draws.specs.EventDraws.{line_runs, run_of}
use Rattle.event_draws.specs.Runs.{runs_of}
use Rattle.event_draws.proofs.StepLemmas.{runs_step}
use Rattle.event_draws.proofs.runs.line_runs.Goals as goal

pub loop-from-preserved : goal.loop-from-preserved
loop-from-preserved c =
    let stage = c.args.stage.now in
    let fonts = c.args.fonts.now.fonts in
    let view = c.args.view.now in
    let line = c.args.line.now in
    let items = c.args.items.now in
    let from = c.loop-from.from in
    let n = c.first_run.result in
    let r = c.in_ok-run_of.field-0 in
    let inv = c.loop-from.invariant in
    let push = c.in_ok-push.ensures.ok in
    let tail : take (length items - from) (drop from items) ≡ drop from items = take_rest items from in
    let least = c.first_run.ensures.most in
    let most : n ≤ length (drop from items) = rw tail at least in
    let split : runs_of view (drop from items) ≡ take n (drop from items) ∷ runs_of view (drop n (drop from items)) = rw tail at c.first_run.ensures.run in
    let e : from + n - from ≡ n = omega arith in
    let run : Some r ≡ run_of stage fonts view line items (take n (drop from items)) = rw e at c.in_ok-run_of.ensures.value in
    record {
      most = omega (arith, most, length-drop from items, inv.most);
      value = runs_step stage fonts view line items from n c.loop-from.runs c.push.new.self (line_runs stage fonts view line items) r inv.value split run push;
      range = subst (All IsDrawnRun) (sym push) (All-push IsDrawnRun c.loop-from.runs r inv.range c.in_ok-run_of.ensures.range);
    }
