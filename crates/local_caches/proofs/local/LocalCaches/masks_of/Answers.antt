use Rattle.std.proofs.Common.{map, ◌∙◌}
use Rattle.std.specs.Arc.{arc_value}
use Rattle.std.proofs.lemmas.List.{map-append}
use Rattle.local_caches.proofs.PaintLemmas.{masks-more}
use Rattle.local_caches.proofs.local.LocalCaches.masks_of.Goals as goal

pub loop-part-preserved : goal.loop-part-preserved
loop-part-preserved c =
    let kept = c.loop-part.invariant in
    record {
      value =
          rw (c.in_ok-push.ensures.items, map-append)
          (masks-more c.args.self.now.fonts c.loop-part.self.fonts c.args.parts.now c.loop-part.part-index c.part-item.result (map arc_value c.loop-part.masks.items) (arc_value c.in_ok-mask.field-0) c.loop-part-test.true c.part-item.is kept.fonts kept.value
          c.in_ok-mask.ensures.value);
      fonts = c.in_ok-mask.ensures.fonts ∙ kept.fonts;
      budget = c.in_ok-mask.ensures.budget ∙ kept.budget;
    }
