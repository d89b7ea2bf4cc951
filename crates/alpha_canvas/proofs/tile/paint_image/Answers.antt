use Rattle.std.proofs.Common.{◌+◌, length, inl, inr, arith}
use Rattle.std.proofs.lemmas.Bool.{cases_lt}
use Rattle.blend.specs.Areas.{placed_of}
use Rattle.blend.specs.Images.{image_value}
use Rattle.alpha_canvas.proofs.TileLemmas.{beside-same, painted-none, painted-wider, weightless-image}
use Rattle.alpha_canvas.proofs.tile.paint_image.Goals as goal

pub returns-then-own-clause-painted : goal.returns-then-own-clause-painted
returns-then-own-clause-painted g c =
    let image = image_value g.M.AsMask.mask c.args.image.now in
    let old = c.args.pixels.now in
    let own = c.columns_in_box-own in
    let beside = beside-same (placed_of c.placed_mask-placed.result) (image.mask, image.x, image.y) c.args.left (c.args.left + length old) own.result.left own.result.right c.args.j c.placed_mask-placed.ensures own.ensures.outside in
    painted-wider image c.args.left c.args.j 0 0 old old (painted-none image c.args.left c.args.j 0 old)
    (λ k less apart. weightless-image image (c.args.left + k) c.args.j (beside (c.args.left + k) (omega arith) (omega arith)
    (elim (cases_lt (c.args.left + k) own.result.left) [ inl before ↦ inl before | inr past ↦ inr (omega (arith, past, c.if-own.true)) ])))

pub returns-clause-painted : goal.returns-clause-painted
returns-clause-painted g c =
    let image = image_value g.M.AsMask.mask c.args.image.now in
    let old = c.args.pixels.now in
    let own = c.columns_in_box-own in
    let from = own.ensures.bounds.0 in
    let count = c.cover-covered.ensures.count in
    let beside = beside-same (placed_of c.placed_mask-placed.result) (image.mask, image.x, image.y) c.args.left (c.args.left + length old) own.result.left own.result.right c.args.j c.placed_mask-placed.ensures own.ensures.outside in
    painted-wider image c.args.left c.args.j _ _ old _ c.paint_covered.ensures.painted
    (λ k less apart. weightless-image image (c.args.left + k) c.args.j (beside (c.args.left + k) (omega arith) (omega arith)
    (elim apart [ inl before ↦ inl (omega (arith, from, before)) | inr past ↦ inr (omega (arith, from, count, past, c.if-own.false)) ])))
