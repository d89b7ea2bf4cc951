use Rattle.std.proofs.Common.{◌≡◌, ◌∙◌, ◌<◌, length, ap, sym, subst}
use Rattle.std.specs.Prelude.{option_and_then, slice_get}
use Rattle.sfnt_font.specs.Codes.{code_of_place, glyph_of_code}
use Rattle.bdf_font.specs.declared.glyphs.FontGlyph.{FontGlyph}
use Rattle.bdf_font.specs.FontData.{font_value}
use Rattle.bdf_font.specs.Fonts.{FontValue}
use Rattle.bdf_font.specs.Outlines.{outline_font, outline_glyphs}
use Rattle.bdf_font.specs.Pixels.{pixels_in}
use Rattle.bdf_font.proofs.OutlineGlyphs.{glyph_at_place, no_pixels}
use Rattle.bdf_font.proofs.font.Font.pixels_at.Goals as goal

pub returns-in-Outlines : goal.returns-in-Outlines
returns-in-Outlines c =
    let font = c.in-Outlines.field-0 in
    let e : outline_font font ≡ c.args.self.now = ap font_value (sym c.in-Outlines.is) ∙ c.data.ensures.value in
    let within : c.args.g < length (outline_glyphs font) = subst (λ (f : FontValue). c.args.g < length f.glyphs) (sym e) c.requires in
    sym (no_pixels font font.tables.outlines (glyph_of_code font (code_of_place font c.args.g)))
    ∙ ap (option_and_then (λ (glyph : FontGlyph). pixels_in glyph.shape)) (sym (glyph_at_place font c.args.g within))
    ∙ ap (λ (f : FontValue). option_and_then (λ (glyph : FontGlyph). pixels_in glyph.shape) (slice_get f.glyphs c.args.g)) e
