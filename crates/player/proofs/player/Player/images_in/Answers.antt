use Rattle.std.proofs.Common.{ℤ, map, subst}
use Rattle.std.proofs.Math.Facts.{to_z-of_z}
use Rattle.std.proofs.lemmas.Result.{on_ok_weaker}
use Rattle.mask_keys.specs.Pictures.{image_of_draw}
use Rattle.picture_plan.specs.Pictures.{AreDraws}
use Rattle.player.proofs.ListLemmas.{listed_picture}
use Rattle.player.proofs.player.Player.images_in.Goals as goal

pub returns-clause-picture : goal.returns-clause-picture
returns-clause-picture c =
    let p = c.args.self.now in
    let are : AreDraws p.script p.fonts p.track.events c.args.t c.args.frame.now c.in_ok-plan.plan.draws =
    subst (λ (t : ℤ). AreDraws p.script p.fonts p.track.events t c.args.frame.now c.in_ok-plan.plan.draws) (to_z-of_z c.ranges.t) c.in_ok-plan.ensures.draws in
    on_ok_weaker c.list_plan.result
    (listed_picture p.script p.fonts p.track.events c.args.t c.args.frame.now c.in_ok-plan.plan.draws c.list_plan.new.self.images c.plain_images_make_the_picture.ensures.picture are)
    c.list_plan.ensures.images

pub returns-clause-within : goal.returns-clause-within
returns-clause-within c =
    on_ok_weaker c.list_plan.result
    (c.plain_images_make_the_picture.ensures.frame c.args.frame.now.size (map (image_of_draw c.args.self.now.fonts) c.in_ok-plan.plan.draws) c.list_plan.new.self.images) c.list_plan.ensures.images
