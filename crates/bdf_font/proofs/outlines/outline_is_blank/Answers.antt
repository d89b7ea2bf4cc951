use Rattle.std.proofs.Common.{◌∙◌, ap, sym}
use Rattle.cff_font.specs.Glyphs.{is_blank_at_sight}
use Rattle.sfnt_font.specs.declared.tables.Tables.{Tables}
use Rattle.sfnt_glyphs.specs.Glyphs.{is_blank_glyph}
use Rattle.bdf_font.proofs.OutlineGlyphs.{blank_at_place, cff_in}
use Rattle.bdf_font.proofs.outlines.outline_is_blank.Goals as goal

pub returns-in-TrueTypeOutlines : goal.returns-in-TrueTypeOutlines
returns-in-TrueTypeOutlines c =
    let is = ap (λ (t : Tables). t.outlines) (sym c.tables.ensures) ∙ c.in-TrueTypeOutlines.is in
    c.is_blank.ensures ∙ ap (is_blank_glyph c.args.font.now) c.glyph_at-g.ensures ∙ sym (blank_at_place c.args.font.now c.args.place _ c.requires.place is)

pub cff_is_blank-requires : goal.cff_is_blank-requires
cff_is_blank-requires c =
    cff_in c.args.font.now c.in-PostScriptOutlines.cff c.requires.font (ap (λ (t : Tables). t.outlines) (sym c.tables.ensures) ∙ c.in-PostScriptOutlines.is)

pub returns-in-PostScriptOutlines : goal.returns-in-PostScriptOutlines
returns-in-PostScriptOutlines c =
    let font = c.args.font.now in
    let cff = c.in-PostScriptOutlines.cff in
    let is = ap (λ (t : Tables). t.outlines) (sym c.tables.ensures) ∙ c.in-PostScriptOutlines.is in
    c.cff_is_blank.ensures ∙ ap (λ bytes. is_blank_at_sight bytes cff c.glyph_at-g.result) c.bytes.ensures ∙ ap (is_blank_at_sight font.bytes cff) c.glyph_at-g.ensures
    ∙ sym (blank_at_place font c.args.place _ c.requires.place is)
