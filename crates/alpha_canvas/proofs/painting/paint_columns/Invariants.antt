use Rattle.std.proofs.Common.{◌+◌, ◌*◌, map}
use Rattle.blend.specs.Images.{image_value}
use Rattle.alpha_canvas.specs.Alpha.{layers_at, formed_pixel}
use Rattle.alpha_canvas.proofs.RowLemmas.{AreFirst}
use Rattle.alpha_canvas.proofs.painting.paint_columns.Given as goal

abbrev pub invariant-loop-tile : goal.invariant-loop-tile
invariant-loop-tile g l = AreFirst (λ k. formed_pixel l.form (layers_at (map (image_value g.M.AsMask.mask) l.images) (l.left + k) l.j)) (256 * l.tile) l.count l.bytes
