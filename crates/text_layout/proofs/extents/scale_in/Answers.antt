use Rattle.std.proofs.Common.{◌≡◌, ◌∙◌, ap}
use Rattle.std.proofs.lemmas.List.{get_or_default}
use Rattle.std.specs.Prelude.{slice_index_or}
use Rattle.bdf_font.specs.Fonts.{FontValue}
use Rattle.bdf_font.specs.Sets.{no_font}
use Rattle.text_layout.specs.Metrics.{scale_across}
use Rattle.text_layout.proofs.BitLemmas.{scale_bits}
use Rattle.text_layout.proofs.extents.scale_in.Goals as goal

pub returns-clause-value : goal.returns-clause-value
returns-clause-value c =
    let fonts = c.args.fonts.now.fonts in
    let font = c.index-as_slice-number.result in
    let is : font ≡ slice_index_or fonts c.args.number no_font =
    c.index-as_slice-number.is ∙ ap (λ fs. slice_index_or fs c.args.number font) c.as_slice.ensures ∙ get_or_default fonts c.args.number font no_font c.requires.number in
    scale_bits _ c.scale_across.ensures.range ∙ c.scale_across.ensures.value ∙ ap (scale_across c.args.metrics.now.size) is
