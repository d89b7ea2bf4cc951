use Rattle.std.proofs.Common.{◌*◌}
use Rattle.blend.specs.Images.{image_value}
use Rattle.blend.proofs.Lists.{drawn-more}
use Rattle.blend.proofs.painting.paint_rows.Goals as goal

pub loop-image-preserved : goal.loop-image-preserved
loop-image-preserved g c =
    drawn-more (image_value g.M.AsMask.mask) c.args.images.now c.loop-image.image-index c.args.w (c.args.w * c.args.top) c.image-item.result c.args.pixels.now c.loop-image.pixels c.draw_rows.new.rows
    c.loop-image-test.true c.image-item.is c.loop-image.invariant c.draw_rows.ensures
