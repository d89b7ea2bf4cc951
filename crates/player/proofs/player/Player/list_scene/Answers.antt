use Rattle.std.proofs.Common.{map}
use Rattle.std.proofs.lemmas.Result.{on_ok_weaker}
use Rattle.ass_events.specs.Histories.{live}
use Rattle.mask_keys.specs.Pictures.{image_of_draw}
use Rattle.player.proofs.ListLemmas.{listed_picture}
use Rattle.player.proofs.player.Player.list_scene.Goals as goal

pub returns-clause-picture : goal.returns-clause-picture
returns-clause-picture c = λ history h.
    let p = c.args.self.now in
    on_ok_weaker c.list_plan.result
    (listed_picture p.script p.fonts (live history) c.args.scene.now.t c.args.frame.now c.in_ok-plan.plan.draws c.list_plan.new.self.images c.plain_images_make_the_picture.ensures.picture
    (c.in_ok-plan.ensures.draws history h))
    c.list_plan.ensures.images

pub returns-clause-within : goal.returns-clause-within
returns-clause-within c =
    on_ok_weaker c.list_plan.result
    (c.plain_images_make_the_picture.ensures.frame c.args.frame.now.size (map (image_of_draw c.args.self.now.fonts) c.in_ok-plan.plan.draws) c.list_plan.new.self.images) c.list_plan.ensures.images

pub returns-clause-list : goal.returns-clause-list
returns-clause-list c = λ history h.
    on_ok_weaker c.list_plan.result
    (λ plain. record { draws = c.in_ok-plan.plan.draws; are_draws = c.in_ok-plan.ensures.draws history h; are_plain = plain })
    c.list_plan.ensures.images
