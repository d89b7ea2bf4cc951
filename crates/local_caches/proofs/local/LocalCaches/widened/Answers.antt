use Rattle.std.proofs.Common.{◌≡◌, ap, sym, ◌∙◌, List}
use Rattle.std.specs.Arc.{arc_value}
use Rattle.bdf_font.specs.Fonts.{FontValue}
use Rattle.mask_keys.specs.Values.{region_value}
use Rattle.local_caches.specs.LocalParts.{LocalCachesView}
use Rattle.local_caches.proofs.KeyLemmas.{border-made, outline-read, outline-read_near}
use Rattle.local_caches.proofs.TagLemmas.{region-tagged}
use Rattle.local_caches.proofs.local.LocalCaches.widened.Goals as goal

pub border_from-requires-clause-outline : goal.border_from-requires-clause-outline
border_from-requires-clause-outline c =
    let fonts : List FontValue = (arc_value c.self.inside.fonts).fonts in
    outline-read_near fonts c.args.key.now c.deref.result.now (outline-read fonts c.args.key.now c.in_ok-outline_key.outline_key (arc_value c.in_ok-outline.outline) c.deref.result.now c.in_ok-outline_key.ensures c.in_ok-outline.ensures.value c.deref.ensures)

pub keep-requires-clause-value : goal.keep-requires-clause-value
keep-requires-clause-value c =
    let fonts : List FontValue = (arc_value c.self.inside.fonts).fonts in
    let same : (arc_value c.self-2.inside.fonts).fonts ≡ fonts = ap (λ (v : LocalCachesView). v.fonts) c.self-2.view_is ∙ c.in_ok-outline.ensures.fonts in
    let read = outline-read fonts c.args.key.now c.in_ok-outline_key.outline_key (arc_value c.in_ok-outline.outline) c.deref.result.now c.in_ok-outline_key.ensures c.in_ok-outline.ensures.value c.deref.ensures in
    border-made fonts c.args.key.now c.deref.result.now (arc_value c.in_ok-region-2.region) read c.in_ok-region-2.ensures
    ∙ sym (region-tagged c.self-2.inside.regions.tag c.self-2.inside.fonts c.self-2.invariant.regions_tag c.args.key.now ∙ ap (λ (f : List FontValue). region_value f c.args.key.now) same)
