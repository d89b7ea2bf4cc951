use Rattle.std.proofs.Common.{arith}
use Rattle.std.proofs.lemmas.List.{take_all}
use Rattle.blend.specs.Areas.{placed_of}
use Rattle.blend.specs.Images.{image_value}
use Rattle.alpha_canvas.proofs.TileLemmas.{beside-same, columns-more, weightless-image}
use Rattle.alpha_canvas.proofs.columns.columns_of_all.Goals as goal

pub loop-image-preserved : goal.loop-image-preserved
loop-image-preserved g c =
    let f = image_value g.M.AsMask.mask in
    let item = c.image-item.result in
    let image = f item in
    let own = c.columns_in_box-own in
    let beside = beside-same (placed_of c.placed_mask.result) (image.mask, image.x, image.y) 0 c.args.w own.result.left own.result.right c.args.j c.placed_mask.ensures own.ensures.outside in (
      c.joined-all.ensures.bound c.args.w c.loop-image.invariant.0 own.ensures.bounds.1,
      columns-more f c.args.images.now c.loop-image.image-index c.args.j c.args.w c.loop-image.all.left c.loop-image.all.right own.result.left own.result.right c.joined-all.result.left c.joined-all.result.right
          item c.loop-image-test.true c.image-item.is c.loop-image.invariant.1 (λ i wide apart. weightless-image image i c.args.j (beside i (omega arith) wide apart)) c.joined-all.ensures.first c.joined-all.ensures.second,
    )

pub returns-clause-clear : goal.returns-clause-clear
returns-clause-clear g c = rw (take_all c.loop-image.image-index c.args.images.now (omega arith)) at c.loop-image.invariant.1
