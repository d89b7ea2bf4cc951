use Rattle.std.proofs.Common.{map, ◌∙◌}
use Rattle.std.specs.Arc.{arc_value}
use Rattle.std.proofs.lemmas.List.{map-append}
use Rattle.blend.specs.Images.{image_value}
use Rattle.local_caches.proofs.ImageLemmas.{images_more}
use Rattle.local_caches.proofs.local.LocalCaches.images.Goals as goal

pub loop-draw-preserved : goal.loop-draw-preserved
loop-draw-preserved c =
    let kept = c.loop-draw.invariant in
    record {
      images =
          rw (c.in_ok-push.ensures.items, map-append)
          (images_more c.args.self.now.fonts c.loop-draw.self.fonts c.args.draws.now c.loop-draw.draw-index c.draw-item.result (map (image_value arc_value) c.loop-draw.images.items) (image_value arc_value c.in_ok-image.field-0) c.loop-draw-test.true c.draw-item.is kept.fonts kept.images
          c.in_ok-image.ensures.value);
      fonts = c.in_ok-image.ensures.fonts ∙ kept.fonts;
      budget = c.in_ok-image.ensures.budget ∙ kept.budget;
    }
