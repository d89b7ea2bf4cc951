-- Public: an OpenType font as a list of glyphs: one for each code of its map in ascending order, and behind them that of missing characters.
use Rattle.std.specs.Prelude.{ℕ, Bool, true, ◌==◌, List, map, Some, ℤ, pos}
use Rattle.sfnt_font.specs.declared.font.SfntFont.{SfntFont}
use Rattle.sfnt_font.specs.Codes.{font_codes, glyph_of_code, missing_code}
use Rattle.sfnt_font.specs.Names.{first_name}
use Rattle.sfnt_glyphs.specs.Glyphs.{contours_of, is_blank_glyph}
use Rattle.sfnt_glyphs.specs.Metrics.{advance_of}
use Rattle.sfnt_font.specs.declared.tables.Outlines.{Outlines}
use Rattle.sfnt_font.specs.declared.tables.Outlines.TheVariants.{TrueTypeOutlines, PostScriptOutlines}
use Rattle.cff_font.specs.Glyphs.{cff_contours, is_blank_at_sight}
use Rattle.bdf_font.specs.declared.glyphs.FontGlyph.{FontGlyph}
use Rattle.bdf_font.specs.declared.glyphs.GlyphShape.{GlyphShape}
use Rattle.bdf_font.specs.declared.glyphs.GlyphShape.TheVariants as shape
use Rattle.bdf_font.specs.Fonts.{FontValue}

-- the shape of glyph g, and whether it is blank, by what the font's glyphs are drawn from
abbrev pub outline_shape : SfntFont → Outlines → ℕ → GlyphShape
outline_shape font (TrueTypeOutlines loca glyf) g = shape.Contours (contours_of font g)
outline_shape font (PostScriptOutlines cff) g = shape.Strokes (cff_contours font.bytes cff font.numbers.units g)

abbrev pub is_blank_outline : SfntFont → Outlines → ℕ → Bool
is_blank_outline font (TrueTypeOutlines loca glyf) g = is_blank_glyph font g
is_blank_outline font (PostScriptOutlines cff) g = is_blank_at_sight font.bytes cff g

-- the glyph of a code; glyph 0 is drawn for missing characters
abbrev pub outline_glyph : SfntFont → ℤ → FontGlyph
outline_glyph font code =
    let g = glyph_of_code font code in
    record { code = code; advance = pos (advance_of font g); blank = is_blank_outline font font.tables.outlines g; missing = g == 0; shape = outline_shape font font.tables.outlines g }

abbrev pub outline_glyphs : SfntFont → List FontGlyph
outline_glyphs font = map (outline_glyph font) (font_codes font)

-- the font that a TrueType font is
abbrev pub outline_font : SfntFont → FontValue
outline_font font = record {
  name = first_name font.names.families;
  families = font.names.families;
  full_names = font.names.full_names;
  weight = font.numbers.weight;
  slanted = font.numbers.slanted;
  is_outline = true;
  ascent = font.numbers.ascent;
  descent = font.numbers.descent;
  default_char = Some missing_code;
  glyphs = outline_glyphs font;
  underline = font.numbers.underline;
  strikeout = font.numbers.strikeout;
  bold_step = pos font.numbers.bold_step;
}
