use Rattle.std.proofs.Common.{map}
use Rattle.blend.specs.Images.{image_value}
use Rattle.blend.proofs.Bands.{whole-drawn}
use Rattle.blend.proofs.painting.paint_pixels.Goals as goal

pub returns : goal.returns
returns g c = whole-drawn c.args.size.now (map (image_value g.M.AsMask.mask) c.args.images.now) c.args.pixels.now c.paint_rows.new.pixels c.requires.bytes c.paint_rows.ensures
