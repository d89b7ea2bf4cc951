use Rattle.std.proofs.Common.{◌≡◌, ◌∙◌, sym, ap, cond, get_or, take, ◌+◌, filter, FitsSigned, w64, to_z-of_z, rules}
use Rattle.ass_num.specs.Limits.{IsWithin}
use Rattle.outline_points.specs.Limits.{max_length}
use Rattle.event_draws.specs.EventDraws.{is_sung_with, right_end, right_of}
use Rattle.event_draws.proofs.RunLemmas.{no_placed, right_more}
use Rattle.event_draws.proofs.runs.sung_right.Goals as goal

pub loop-placed-preserved : goal.loop-placed-preserved
loop-placed-preserved c =
    let stage = c.args.stage.now in
    let p = is_sung_with c.args.view.now c.args.state.now in
    let items = c.args.items.now in
    let k = c.loop-placed.placed-index in
    let x = get_or items k no_placed in
    let fits : FitsSigned w64 c.right_after-right.result = search rules in
    let value : c.right_after-right.result ≡ right_end stage (filter p (take (k + 1) items)) =
    c.right_after-right.ensures.value ∙ ap (λ z. cond (p x) (right_of stage x) z) c.loop-placed.invariant.value ∙ sym (right_more stage p items k no_placed c.loop-placed-test.true) in
    let within : IsWithin max_length c.right_after-right.result = c.right_after-right.ensures.within in
    rw (to_z-of_z fits) (record { value = value; within = within })
