use Rattle.std.proofs.Common.{◌≡◌, ◌*◌, map, take}
use Rattle.blend.specs.Bands.{painted_all}
use Rattle.blend.specs.Images.{image_value}
use Rattle.blend.proofs.painting.paint_rows.Given as goal

abbrev pub invariant-loop-image : goal.invariant-loop-image
invariant-loop-image g l = l.pixels ≡ painted_all (map (image_value g.M.AsMask.mask) (take l.image-index l.images)) l.w (l.w * l.top) l.fn.pixels
