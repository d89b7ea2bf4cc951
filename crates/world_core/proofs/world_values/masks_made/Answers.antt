use Rattle.std.proofs.Common.{map, refl, ◌∙◌}
use Rattle.std.specs.Arc.{arc_value}
use Rattle.std.proofs.lemmas.List.{map-append}
use Rattle.local_caches.proofs.PaintLemmas.{masks-more}
use Rattle.world_core.proofs.world_values.masks_made.Goals as goal

pub loop-part-preserved : goal.loop-part-preserved
loop-part-preserved c =
    let fonts = c.args.fonts.now.fonts in
    rw (c.in_ok-push.ensures.items, map-append)
    (masks-more fonts fonts c.args.parts.now c.loop-part.part-index c.part-item.result (map arc_value c.loop-part.masks.items) (arc_value c.in_ok-new.field-0) c.loop-part-test.true c.part-item.is refl c.loop-part.invariant
    (c.in_ok-new.ensures.ok ∙ c.in_ok-mask.ensures))
