use Rattle.std.proofs.Common.{◌≡◌, ◌∙◌, ℕ, ◌<◌, true, List, [], length, get_or, pos, sym, ap, subst, arith}
use Rattle.std.proofs.lemmas.List.{get_or_default}
use Rattle.std.proofs.lemmas.Option.{slice_get-get_or}
use Rattle.std.specs.List.{All}
use Rattle.std.specs.Prelude.{slice_index_or}
use Rattle.ass_num.specs.Limits.{IsWithin, max_whole}
use Rattle.ass_num.proofs.LimitLemmas.{IsWithin-wider}
use Rattle.bdf_font.specs.Fonts.{FontValue}
use Rattle.bdf_font.specs.Limits.{max_measure}
use Rattle.bdf_font.specs.Ranges.{IsGlyph}
use Rattle.bdf_font.specs.Sets.{no_font}
use Rattle.bdf_font.specs.declared.glyphs.FontGlyph.{FontGlyph}
use Rattle.bdf_font.specs.declared.glyphs.GlyphShape.TheVariants as shape
use Rattle.outline_points.specs.Limits.{max_pixel}
use Rattle.text_layout.specs.Extents.{glyph_advance}
use Rattle.text_layout.proofs.BitLemmas.{bits_32, whole_bits}
use Rattle.text_layout.proofs.extents.glyph_advance.Goals as goal

no_glyph : FontGlyph
no_glyph = record { code = pos 0; advance = pos 0; blank = true; missing = true; shape = shape.Contours [] }

-- the advance of a glyph that is there
advance_within : (glyphs : List FontGlyph) (place : ℕ) → All IsGlyph glyphs → place < length glyphs → IsWithin max_measure (glyph_advance glyphs place)
advance_within glyphs place each within = rw (slice_get-get_or glyphs place no_glyph within) (each place no_glyph within).advance

-- the font at a place of a set
font_at : (given fonts : List FontValue) (k : ℕ) (font : FontValue) → font ≡ get_or given k font → given ≡ fonts → k < length fonts → font ≡ slice_index_or fonts k no_font
font_at given fonts k font is same within = is ∙ ap (λ fs. get_or fs k font) same ∙ get_or_default fonts k font no_font within

font_is : (c : goal.After-advance_at) → c.index-as_slice-place.result ≡ slice_index_or c.args.fonts.now.fonts c.args.place.font no_font
font_is c = font_at c.as_slice.result.now c.args.fonts.now.fonts c.args.place.font c.index-as_slice-place.result c.index-as_slice-place.is c.as_slice.ensures c.requires.place.0

advance_is : (c : goal.After-advance_at) → c.advance_at.result ≡ glyph_advance (slice_index_or c.args.fonts.now.fonts c.args.place.font no_font).glyphs c.args.place.glyph
advance_is c = c.advance_at.ensures ∙ ap (λ (f : FontValue). glyph_advance f.glyphs c.args.place.glyph) (font_is c)

near : (c : goal.After-advance_at) → IsWithin max_measure c.advance_at.result
near c =
    let font = slice_index_or c.args.fonts.now.fonts c.args.place.font no_font in
    let within = advance_within font.glyphs c.args.place.glyph (c.requires.fonts.each c.args.place.font no_font c.requires.place.0).glyphs c.requires.place.1 in
    subst (IsWithin max_measure) (sym (advance_is c)) within

bits : (c : goal.After-advance_at) → bits_32 c.advance_at.result ≡ c.advance_at.result
bits c = whole_bits c.advance_at.result (IsWithin-wider max_measure max_whole c.advance_at.result (omega arith) (near c))

pub scaled_pixels-requires-clause-pixels : goal.scaled_pixels-requires-clause-pixels
scaled_pixels-requires-clause-pixels c = subst (IsWithin max_pixel) (sym (bits c)) (IsWithin-wider max_measure max_pixel c.advance_at.result (omega arith) (near c))
