use Rattle.std.proofs.Common.{ℤ, subst}
use Rattle.std.proofs.Math.Facts.{to_z-of_z}
use Rattle.std.proofs.lemmas.Result.{on_ok_weaker}
use Rattle.picture_plan.specs.Pictures.{AreDraws}
use Rattle.player.proofs.player.Player.draw_alpha_in.Goals as goal

pub returns-clause-picture : goal.returns-clause-picture
returns-clause-picture c =
    let p = c.args.self.now in
    let are : AreDraws p.script p.fonts p.track.events c.args.t c.args.frame.now c.in_ok-plan.plan.draws =
    subst (λ (t : ℤ). AreDraws p.script p.fonts p.track.events t c.args.frame.now c.in_ok-plan.plan.draws) (to_z-of_z c.ranges.t) c.in_ok-plan.ensures.draws in
    on_ok_weaker c.paint_over_nothing.result (λ rows. record { draws = c.in_ok-plan.plan.draws; are_draws = are; rows = rows }) c.paint_over_nothing.ensures.picture
