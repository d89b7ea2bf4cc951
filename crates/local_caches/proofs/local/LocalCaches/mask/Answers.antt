use Rattle.std.proofs.Common.{◌≡◌, ap, sym, ◌∙◌, List}
use Rattle.std.specs.Arc.{arc_value}
use Rattle.bdf_font.specs.Fonts.{FontValue}
use Rattle.mask_keys.specs.Values.{mask_value}
use Rattle.local_caches.specs.LocalParts.{LocalCachesView}
use Rattle.local_caches.proofs.KeyLemmas.{mask-made, region-read_near}
use Rattle.local_caches.proofs.TagLemmas.{mask-tagged}
use Rattle.local_caches.proofs.local.LocalCaches.mask.Goals as goal

pub mask_from-requires-clause-region : goal.mask_from-requires-clause-region
mask_from-requires-clause-region c =
    region-read_near (arc_value c.self.inside.fonts).fonts c.in_ok-region_key.region_key (arc_value c.in_ok-region.region) c.deref.result.now c.in_ok-region.ensures.value c.deref.ensures

pub keep-requires-clause-value : goal.keep-requires-clause-value
keep-requires-clause-value c =
    let fonts : List FontValue = (arc_value c.self.inside.fonts).fonts in
    let same : (arc_value c.self-2.inside.fonts).fonts ≡ fonts = ap (λ (v : LocalCachesView). v.fonts) c.self-2.view_is ∙ c.in_ok-region.ensures.fonts in
    mask-made fonts c.args.key.now c.in_ok-region_key.region_key (arc_value c.in_ok-region.region) c.deref.result.now (arc_value c.in_ok-mask-2.mask) c.in_ok-region_key.ensures c.in_ok-region.ensures.value c.deref.ensures c.in_ok-mask-2.ensures
    ∙ sym (mask-tagged c.self-2.inside.masks.tag c.self-2.inside.fonts c.self-2.invariant.masks_tag c.args.key.now ∙ ap (λ (f : List FontValue). mask_value f c.args.key.now) same)
