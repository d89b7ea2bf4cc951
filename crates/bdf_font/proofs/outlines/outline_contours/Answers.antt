use Rattle.std.proofs.Common.{◌∙◌, ap, sym}
use Rattle.sfnt_font.specs.declared.tables.Tables.{Tables}
use Rattle.sfnt_glyphs.specs.Glyphs.{contours_of}
use Rattle.bdf_font.specs.Pixels.{contours_in}
use Rattle.bdf_font.proofs.OutlineGlyphs.{shape_at_place}
use Rattle.bdf_font.proofs.outlines.outline_contours.Goals as goal

pub returns-in-TrueTypeOutlines : goal.returns-in-TrueTypeOutlines
returns-in-TrueTypeOutlines c =
    let is = ap (λ (t : Tables). t.outlines) (sym c.tables.ensures) ∙ c.in-TrueTypeOutlines.is in
    rw (shape_at_place contours_in c.args.font.now c.args.place _ c.requires.place is, ← c.glyph_at.ensures) c.contours_of.ensures

pub returns-in-PostScriptOutlines : goal.returns-in-PostScriptOutlines
returns-in-PostScriptOutlines c =
    let is = ap (λ (t : Tables). t.outlines) (sym c.tables.ensures) ∙ c.in-PostScriptOutlines.is in
    c.new.ensures ∙ sym (shape_at_place contours_in c.args.font.now c.args.place _ c.requires.place is)
