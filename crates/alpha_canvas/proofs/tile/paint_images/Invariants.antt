use Rattle.std.proofs.Common.{◌≡◌, false, map, take, length}
use Rattle.std.specs.List.{All}
use Rattle.blend.specs.Images.{image_value}
use Rattle.alpha_canvas.specs.Alpha.{clear}
use Rattle.alpha_canvas.specs.Bounds.{IsWithinAlpha}
use Rattle.alpha_canvas.specs.Tiles.{AreLayers}
use Rattle.alpha_canvas.proofs.tile.paint_images.Given as goal

abbrev pub invariant-loop-image : goal.invariant-loop-image
invariant-loop-image g l =
    AreLayers (map (image_value g.M.AsMask.mask) (take l.image-index l.images)) l.left l.j l.pixels × (length l.pixels ≡ length l.initial.pixels)
    × All IsWithinAlpha l.pixels × (l.any ≡ false → All (λ p. p ≡ clear) l.pixels)
