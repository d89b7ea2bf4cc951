use Rattle.std.proofs.Common.{◌≡◌, ◌∙◌, ap₂, rules, arith}
use Rattle.std.proofs.lemmas.Grind.{common_steps}
use Rattle.draw_numbers.specs.Colours.{fill_paint}
use Rattle.event_draws.proofs.runs.paint_of.Goals as goal

pub returns : goal.returns
returns c =
    let stage = c.args.stage.now in
    let filled : c.fill_paint-2.result ≡ fill_paint stage.fade stage.elapsed c.args.state.now c.sung_left-left.result c.sung_right-right.result =
    first_of (search rules, grind (arith, common_steps)) in
    filled ∙ ap₂ (λ left right. fill_paint stage.fade stage.elapsed c.args.state.now left right) c.sung_left-left.ensures.value c.sung_right-right.ensures.value
