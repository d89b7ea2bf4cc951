use Rattle.std.proofs.Common.{◌+◌}
use Rattle.std.specs.List.{All}
use Rattle.blend.specs.Images.{image_value}
use Rattle.alpha_canvas.specs.Bounds.{IsWithinAlpha}
use Rattle.alpha_canvas.specs.Tiles.{IsPaintedOn}
use Rattle.alpha_canvas.proofs.tile.paint_covered.Given as goal

abbrev pub invariant-loop-k : goal.invariant-loop-k
invariant-loop-k g l = IsPaintedOn (image_value g.M.AsMask.mask l.image) l.left l.j l.from (l.from + l.k) l.initial.pixels l.pixels × All IsWithinAlpha l.pixels
