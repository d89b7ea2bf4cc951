use Rattle.std.proofs.Common.{◌≡◌, ℤ, List}
use Rattle.ass_num.specs.Winding.{winding}
use Rattle.bdf_font.specs.Fonts.{FontValue}
use Rattle.mask_keys.specs.Outlines.{rings_of}
use Rattle.made_values.proofs.AnswerLemmas.{same_winding}
use Rattle.made_values.proofs.GlyphLemmas.{font_found, glyph_rings_found}
use Rattle.made_values.proofs.outlines.winding_outline.Goals as goal

pub returns-then-m-eq0-clause-winding : goal.returns-then-m-eq0-clause-winding
returns-then-m-eq0-clause-winding c =
    let fonts : List FontValue = c.args.fonts.now.fonts in
    let valid = rw c.in-Glyph.is at c.requires.key in
    let font = font_found fonts c.as_slice.result.now c.in-Glyph.font c.in-Glyph.glyph c.index-as_slice-font.result c.in-Glyph.m c.as_slice.ensures c.index-as_slice-font.is valid in
    rw c.in-Glyph.is (glyph_rings_found c.in-Glyph.m c.in-Glyph.bold c.in-Glyph.underline c.in-Glyph.strikeout (λ o rings. (i j : ℤ) → winding o.rings i j ≡ winding rings i j)
    c.runs_of.result fonts c.in-Glyph.font c.in-Glyph.glyph c.index-as_slice-font.result font.0 font.1 c.runs_of.ensures.winding)

pub returns-clause-winding : goal.returns-clause-winding
returns-clause-winding c =
    same_winding c.simpler.result c.in_ok-outline.outline.rings (rings_of c.args.fonts.now.fonts c.args.key.now) c.in_ok-outline.ensures.rings c.simpler.ensures.winding
