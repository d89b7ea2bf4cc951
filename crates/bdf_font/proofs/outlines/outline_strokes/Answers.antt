use Rattle.std.proofs.Common.{◌∙◌, ap, sym}
use Rattle.sfnt_font.specs.declared.tables.Tables.{Tables}
use Rattle.bdf_font.specs.Pixels.{strokes_in}
use Rattle.bdf_font.proofs.OutlineGlyphs.{cff_in, shape_at_place}
use Rattle.bdf_font.proofs.outlines.outline_strokes.Goals as goal

pub returns-in-TrueTypeOutlines : goal.returns-in-TrueTypeOutlines
returns-in-TrueTypeOutlines c =
    let is = ap (λ (t : Tables). t.outlines) (sym c.tables.ensures) ∙ c.in-TrueTypeOutlines.is in
    c.new.ensures ∙ sym (shape_at_place strokes_in c.args.font.now c.args.place _ c.requires.place is)

pub cff_contours-requires : goal.cff_contours-requires
cff_contours-requires c =
    cff_in c.args.font.now c.in-PostScriptOutlines.cff c.requires.font (ap (λ (t : Tables). t.outlines) (sym c.tables.ensures) ∙ c.in-PostScriptOutlines.is)

pub returns-in-PostScriptOutlines : goal.returns-in-PostScriptOutlines
returns-in-PostScriptOutlines c =
    let is = ap (λ (t : Tables). t.outlines) (sym c.tables.ensures) ∙ c.in-PostScriptOutlines.is in
    rw (shape_at_place strokes_in c.args.font.now c.args.place _ c.requires.place is, ← c.glyph_at.ensures, ← c.bytes.ensures, ← c.numbers.ensures) c.cff_contours.ensures
