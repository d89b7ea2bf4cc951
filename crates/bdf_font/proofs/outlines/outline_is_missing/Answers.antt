use Rattle.std.proofs.Common.{◌∙◌, ap, true, sym}
use Rattle.std.specs.Prelude.{◌==◌}
use Rattle.std.specs.Option.{option_map_or}
use Rattle.bdf_font.specs.declared.glyphs.FontGlyph.{FontGlyph}
use Rattle.bdf_font.proofs.OutlineGlyphs.{glyph_at_place}
use Rattle.bdf_font.proofs.outlines.outline_is_missing.Goals as goal

pub returns : goal.returns
returns c =
    ap (λ n. n == 0) c.glyph_at.ensures
    ∙ sym (ap (λ o. option_map_or (λ (glyph : FontGlyph). glyph.missing) o true) (glyph_at_place c.args.font.now c.args.place c.requires.place))
