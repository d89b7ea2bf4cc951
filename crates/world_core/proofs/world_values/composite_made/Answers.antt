use Rattle.std.proofs.Common.{◌≡◌, map, refl, ◌∙◌}
use Rattle.std.specs.Arc.{arc_value}
use Rattle.mask_keys.specs.Outlines.{glyph_counts}
use Rattle.mask_keys.specs.Values.{composite_value}
use Rattle.made_values.proofs.KeyLemmas.{parts_placeable}
use Rattle.local_caches.proofs.PaintLemmas.{composite-made}
use Rattle.world_core.proofs.world_values.composite_made.Goals as goal

pub made_composite-requires-clause-masks : goal.made_composite-requires-clause-masks
made_composite-requires-clause-masks c =
    rw (c.deref.ensures.value, c.in_ok-masks.ensures, c.as_slice-parts.ensures) (parts_placeable c.args.fonts.now.fonts (glyph_counts c.args.fonts.now.fonts) c.args.key.now.parts c.requires.key.parts)

pub returns : goal.returns
returns c =
    let fonts = c.args.fonts.now.fonts in
    let read : map arc_value c.deref.result.now ≡ map arc_value c.in_ok-masks.masks.items = rw c.deref.ensures.value refl in
    let value : c.deref-2.result.now ≡ composite_value fonts c.args.key.now =
    c.deref-2.ensures
    ∙ composite-made fonts c.args.key.now c.as_slice-parts.result.now (map arc_value c.in_ok-masks.masks.items) (map arc_value c.deref.result.now) (arc_value c.in_ok-shared.shared) c.as_slice-parts.ensures c.in_ok-masks.ensures read c.in_ok-shared.ensures in
    rw value at c.mask_copy.ensures
