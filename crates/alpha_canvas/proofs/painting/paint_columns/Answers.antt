use Rattle.std.proofs.Common.{◌≡◌, ◌+◌, ◌-◌, ◌*◌, ◌/◌, map, ap, arith}
use Rattle.blend.specs.Images.{image_value}
use Rattle.alpha_canvas.specs.Alpha.{formed_pixel, layers_at}
use Rattle.alpha_canvas.proofs.RowLemmas.{first-all, first-part}
use Rattle.alpha_canvas.proofs.painting.paint_columns.Goals as goal

pub loop-tile-preserved : goal.loop-tile-preserved
loop-tile-preserved g c =
    let images = map (image_value g.M.AsMask.mask) c.args.images.now in
    let tile = c.loop-tile.tile in
    first-part (λ k. formed_pixel c.args.form (layers_at images (c.args.left + k) c.args.j)) (λ k. formed_pixel c.args.form (layers_at images (c.args.left + 256 * tile + k) c.args.j))
    (256 * tile) 256 (256 * (tile + 1)) c.args.count _ _ c.loop-tile.bytes c.paint_tile.new.bytes (omega arith) (omega arith) (omega arith) (omega arith) c.loop-tile.invariant c.paint_tile.ensures
    (λ k. ap (λ i. formed_pixel c.args.form (layers_at images i c.args.j)) (let at : c.args.left + 256 * tile + k ≡ c.args.left + (256 * tile + k) = omega arith in at))

pub returns : goal.returns
returns g c =
    let images = map (image_value g.M.AsMask.mask) c.args.images.now in
    let tiles = c.args.count / 256 in
    let all : c.loop-tile.tile ≡ tiles = omega arith in
    let count = c.loop-tile.invariant.count in
    first-all (λ k. formed_pixel c.args.form (layers_at images (c.args.left + k) c.args.j)) c.args.count _
    (first-part (λ k. formed_pixel c.args.form (layers_at images (c.args.left + k) c.args.j)) (λ k. formed_pixel c.args.form (layers_at images (c.args.left + 256 * tiles + k) c.args.j))
    (256 * tiles) (c.args.count - 256 * tiles) c.args.count c.args.count _ _ c.loop-tile.bytes c.paint_tile-2.new.bytes (omega arith) (omega arith) (omega arith) (omega (arith, count))
    (rw all at c.loop-tile.invariant) c.paint_tile-2.ensures
    (λ k. ap (λ i. formed_pixel c.args.form (layers_at images i c.args.j)) (let at : c.args.left + 256 * tiles + k ≡ c.args.left + (256 * tiles + k) = omega arith in at)))
