use Rattle.std.proofs.Common.{◌≡◌, ◌∙◌, sym, ap, true, get_or, pos, FitsSigned, w64, to_z-of_z, rules, arith}
use Rattle.std.specs.Option.{option_map_or}
use Rattle.event_draws.specs.EventDraws.{is_sung_with, left_of}
use Rattle.event_draws.proofs.RunLemmas.{first_kept, no_placed}
use Rattle.event_draws.proofs.runs.sung_left.Goals as goal

pub returns-then-is_sung_with-clause-value : goal.returns-then-is_sung_with-clause-value
returns-then-is_sung_with-clause-value c =
    let stage = c.args.stage.now in
    let items = c.args.items.now in
    let k = c.loop-placed.placed-index in
    let here : is_sung_with c.args.view.now c.args.state.now (get_or items k no_placed) ≡ true = grind arith in
    let fits : FitsSigned w64 c.left_of.result = search rules in
    rw (to_z-of_z fits)
    (c.left_of.ensures.value
    ∙ sym (ap (λ o. option_map_or (left_of stage) o (pos 0)) (first_kept (is_sung_with c.args.view.now c.args.state.now) items k no_placed c.loop-placed-test.true c.loop-placed.invariant here)))
