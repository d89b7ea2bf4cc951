use Rattle.std.proofs.Common.{◌≡◌, List}
use Rattle.bdf_font.specs.Fonts.{FontValue}
use Rattle.made_values.proofs.GlyphLemmas.{font_found, glyph_rings_found}
use Rattle.made_values.proofs.outlines.outline_of.Goals as goal

pub returns-in-Glyph-clause-rings : goal.returns-in-Glyph-clause-rings
returns-in-Glyph-clause-rings c =
    let fonts : List FontValue = c.args.fonts.now.fonts in
    let valid = rw c.in-Glyph.is at c.requires.key in
    let font = font_found fonts c.as_slice.result.now c.in-Glyph.font c.in-Glyph.glyph c.index-as_slice-font.result c.in-Glyph.m c.as_slice.ensures c.index-as_slice-font.is valid in
    rw c.in-Glyph.is (glyph_rings_found c.in-Glyph.m c.in-Glyph.bold c.in-Glyph.underline c.in-Glyph.strikeout (λ o rings. o.rings ≡ rings) c.quads_of.result fonts c.in-Glyph.font c.in-Glyph.glyph c.index-as_slice-font.result font.0 font.1 c.quads_of.ensures.value)
