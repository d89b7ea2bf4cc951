use Rattle.std.proofs.Common.{◌∙◌, ap, pos, sym, FitsSigned, to_z-of_z, rules, w32}
use Rattle.std.specs.Option.{option_map_or}
use Rattle.sfnt_glyphs.specs.Metrics.{advance_of}
use Rattle.bdf_font.specs.declared.glyphs.FontGlyph.{FontGlyph}
use Rattle.bdf_font.proofs.OutlineGlyphs.{glyph_at_place}
use Rattle.bdf_font.proofs.outlines.outline_advance.Goals as goal

pub returns : goal.returns
returns c =
    let fits : FitsSigned w32 c.from.result = search rules in
    to_z-of_z fits ∙ c.from.ensures ∙ ap pos (c.advance_of.ensures ∙ ap (advance_of c.args.font.now) c.glyph_at.ensures)
    ∙ sym (ap (λ o. option_map_or (λ (glyph : FontGlyph). glyph.advance) o (pos 0)) (glyph_at_place c.args.font.now c.args.place c.requires.place))
