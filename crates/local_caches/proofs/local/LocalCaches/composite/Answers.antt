use Rattle.std.proofs.Common.{◌≡◌, refl, ap, sym, ◌∙◌, List, map}
use Rattle.std.specs.Arc.{arc_value}
use Rattle.bdf_font.specs.Fonts.{FontValue}
use Rattle.mask_keys.specs.Outlines.{glyph_counts}
use Rattle.mask_keys.specs.Values.{composite_value}
use Rattle.made_values.proofs.KeyLemmas.{parts_placeable}
use Rattle.local_caches.specs.LocalParts.{LocalCachesView}
use Rattle.local_caches.proofs.TagLemmas.{composite-tagged}
use Rattle.local_caches.proofs.PaintLemmas.{composite-made}
use Rattle.local_caches.proofs.local.LocalCaches.composite.Goals as goal

pub made_composite-requires-clause-masks : goal.made_composite-requires-clause-masks
made_composite-requires-clause-masks c =
    rw (c.deref.ensures.value, c.in_ok-masks.ensures.value, c.as_slice-parts.ensures) (parts_placeable (arc_value c.self.inside.fonts).fonts (glyph_counts c.args.self.now.fonts) c.args.key.now.parts c.requires.parts)

pub keep-requires-clause-value : goal.keep-requires-clause-value
keep-requires-clause-value c =
    let fonts : List FontValue = (arc_value c.self.inside.fonts).fonts in
    let same : (arc_value c.self-2.inside.fonts).fonts ≡ fonts = ap (λ (v : LocalCachesView). v.fonts) c.self-2.view_is ∙ c.in_ok-masks.ensures.fonts in
    let read : map arc_value c.deref.result.now ≡ map arc_value c.in_ok-masks.masks.items = rw c.deref.ensures.value refl in
    composite-made fonts c.args.key.now c.as_slice-parts.result.now (map arc_value c.in_ok-masks.masks.items) (map arc_value c.deref.result.now) (arc_value c.in_ok-mask-2.mask) c.as_slice-parts.ensures c.in_ok-masks.ensures.value read
    c.in_ok-mask-2.ensures
    ∙ sym (composite-tagged c.self-2.inside.composites.tag c.self-2.inside.fonts c.self-2.invariant.composites_tag c.args.key.now ∙ ap (λ (f : List FontValue). composite_value f c.args.key.now) same)
