use Rattle.std.proofs.Common.{◌≡◌, map}
use Rattle.std.specs.Arc.{arc_value}
use Rattle.blend.specs.Images.{image_value}
use Rattle.mask_keys.specs.Pictures.{image_of_draw}
use Rattle.frame_images.proofs.alpha.alpha_pixels.Goals as goal

pub returns-clause-pixels : goal.returns-clause-pixels
returns-clause-pixels c =
    let images_are : map (image_value arc_value) c.in_ok-images.images.items ≡ map (image_of_draw c.args.local.now.fonts) c.args.plan.now.draws =
    rw c.as_slice.ensures at c.in_ok-images.ensures.value in
    rw (c.as_slice-2.ensures.value, images_are) at c.paint_alpha.ensures
