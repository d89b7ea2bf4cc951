use Rattle.std.proofs.lemmas.Result.{on_ok_weaker}
use Rattle.player.proofs.player.Player.draw_scene_alpha.Goals as goal

pub returns-clause-picture : goal.returns-clause-picture
returns-clause-picture c = λ history h.
    on_ok_weaker c.paint_over_nothing.result
    (λ rows. record { draws = c.in_ok-plan.plan.draws; are_draws = c.in_ok-plan.ensures.draws history h; rows = rows })
    c.paint_over_nothing.ensures.picture
