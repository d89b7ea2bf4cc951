use Rattle.std.proofs.Common.{◌≡◌, ◌∙◌, ap, map}
use Rattle.std.specs.Arc.{arc_value}
use Rattle.blend.specs.Images.{image_value}
use Rattle.mask_keys.specs.Pictures.{image_of_draw}
use Rattle.player.specs.Players.{PlayerView}
use Rattle.player.proofs.player.Player.paint_over_nothing.Goals as goal

pub returns-clause-picture : goal.returns-clause-picture
returns-clause-picture c =
    let fonts : c.self.inside.local.fonts ≡ c.args.self.now.fonts = c.self.invariant.local_fonts ∙ ap (λ (p : PlayerView). p.fonts) c.self.view_is in
    let images_are : map (image_value arc_value) c.in_ok-images.images.items ≡ map (image_of_draw c.args.self.now.fonts) c.args.plan.now.draws =
    rw (c.as_slice.ensures, fonts) at c.in_ok-images.ensures.value in
    rw (c.as_slice-2.ensures.value, images_are) at c.paint_alpha_rows.ensures
