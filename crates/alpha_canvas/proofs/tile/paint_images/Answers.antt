use Rattle.std.proofs.Common.{◌≡◌, ◌∙◌, List, subst, sym}
use Rattle.std.specs.List.{All}
use Rattle.blend.specs.Images.{image_value}
use Rattle.alpha_canvas.specs.Alpha.{clear}
use Rattle.alpha_canvas.specs.declared.layers.Layers.{Layers}
use Rattle.alpha_canvas.proofs.TileLemmas.{layers-more, or-none}
use Rattle.alpha_canvas.proofs.tile.paint_images.Goals as goal

pub loop-image-preserved : goal.loop-image-preserved
loop-image-preserved g c =
    let was = c.loop-image.invariant in
    let painted = c.paint_image-any.ensures in (
      layers-more (image_value g.M.AsMask.mask) c.args.images.now c.loop-image.image-index c.args.left c.args.j c.image-item.result c.loop-image.pixels c.paint_image-any.new.pixels
          c.loop-image-test.true c.image-item.is was.0 painted.painted,
      painted.painted.count ∙ was.1,
      painted.within,
      λ none.
          let parts = or-none c.loop-image.any c.paint_image-any.result none in
          subst (λ (s : List Layers). All (λ (p : Layers). p ≡ clear) s) (sym (painted.same parts.1)) (was.3 parts.0),
    )
