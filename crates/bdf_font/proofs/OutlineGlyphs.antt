-- The glyphs of a TrueType font in its list: what stands at a place, where a character's stands, and in which ranges they are.
use Rattle.std.proofs.Common.{◌≡◌, ℕ, ◌+◌, ◌-◌, ◌<◌, List, [], ◌∷◌, length, cond, Option, Some, None, true, refl, ap, ap₂, subst, ◌∙◌, ℤ, pos, arith, map, All}
use Rattle.std.specs.Prelude.{slice_get, IfSome, option_map}
use Rattle.std.specs.Option.{option_map_or, option_or}
use Rattle.std.specs.Ordering.{int_eq}
use Rattle.std.proofs.lemmas.Int.{ints}
use Rattle.std.proofs.lemmas.List.{length-map}
use Rattle.std.proofs.lemmas.Option.{slice_get-map, slice_get-get_or}
use Rattle.std.proofs.lemmas.List.Elements.{All-cons, All-head, All-map, All-nil, All-tail}
use Rattle.cff_font.specs.declared.read.CffFont.{CffFont}
use Rattle.cff_font.specs.Ranges.{IsCffFont}
use Rattle.cff_font.proofs.MachineBounds.{contours-within}
use Rattle.sfnt_font.specs.declared.font.SfntFont.{SfntFont}
use Rattle.sfnt_font.specs.declared.tables.Outlines.{Outlines}
use Rattle.sfnt_font.specs.declared.tables.Outlines.TheVariants.{TrueTypeOutlines, PostScriptOutlines}
use Rattle.sfnt_font.specs.Directory.{AreOutlinesIn}
use Rattle.sfnt_font.specs.declared.numbers.Bar.{Bar}
use Rattle.sfnt_font.specs.Codes.{font_codes, code_of_place, code_place_from, glyph_of_code, missing_code}
use Rattle.sfnt_font.specs.Fonts.{place_of_code}
use Rattle.sfnt_font.specs.Numbers.{IsFontBar}
use Rattle.sfnt_font.specs.Ranges.{IsSfntFont}
use Rattle.sfnt_font.proofs.CodeLemmas.{code_place, missing_place, font_codes_most}
use Rattle.sfnt_glyphs.proofs.ContourBounds.{contours_within}
use Rattle.sfnt_glyphs.proofs.AdvanceLemmas.{advance_most}
use Rattle.bdf_font.specs.Fonts.{place_from, place_of, glyph_of}
use Rattle.bdf_font.specs.Outlines.{is_blank_outline, outline_glyph, outline_glyphs, outline_font, outline_shape}
use Rattle.bdf_font.specs.Pixels.{pixels_in}
use Rattle.bdf_font.specs.Ranges.{IsBar, IsFont, IsGlyph, IsShape}
use Rattle.bdf_font.specs.declared.glyphs.FontGlyph.{FontGlyph}
use Rattle.bdf_font.specs.declared.glyphs.GlyphShape.{GlyphShape}

-- the glyph at a place is that of the code there
pub glyph_at_place : (font : SfntFont) (place : ℕ) → place < length (outline_glyphs font) → slice_get (outline_glyphs font) place ≡ Some (outline_glyph font (code_of_place font place))
glyph_at_place font place within =
    slice_get-map (outline_glyph font) (font_codes font) place
    ∙ ap (option_map (outline_glyph font)) (slice_get-get_or (font_codes font) place missing_code (omega (arith, within, length-map (font_codes font) (outline_glyph font))))

-- ---- what a glyph is drawn from

pub blank_at_place : (font : SfntFont) (place : ℕ) (outlines : Outlines) → place < length (outline_glyphs font) → font.tables.outlines ≡ outlines
    → option_map_or (λ (glyph : FontGlyph). glyph.blank) (slice_get (outline_glyphs font) place) true ≡ is_blank_outline font outlines (glyph_of_code font (code_of_place font place))
blank_at_place font place outlines within is =
    let g = glyph_of_code font (code_of_place font place) in
    ap (λ o. option_map_or (λ (glyph : FontGlyph). glyph.blank) o true) (glyph_at_place font place within) ∙ ap (λ (o : Outlines). is_blank_outline font o g) is

pub shape_at_place : {T : Type 0} (part : GlyphShape → List T) (font : SfntFont) (place : ℕ) (outlines : Outlines) → place < length (outline_glyphs font) → font.tables.outlines ≡ outlines
    → option_map_or (λ (glyph : FontGlyph). part glyph.shape) (slice_get (outline_glyphs font) place) [] ≡ part (outline_shape font outlines (glyph_of_code font (code_of_place font place)))
shape_at_place part font place outlines within is =
    let g = glyph_of_code font (code_of_place font place) in
    ap (λ o. option_map_or (λ (glyph : FontGlyph). part glyph.shape) o []) (glyph_at_place font place within) ∙ ap (λ (o : Outlines). part (outline_shape font o g)) is

pub no_pixels : (font : SfntFont) (outlines : Outlines) (g : ℕ) → pixels_in (outline_shape font outlines g) ≡ None
no_pixels font (TrueTypeOutlines loca glyf) g = refl
no_pixels font (PostScriptOutlines cff) g = refl

pub cff_in : (font : SfntFont) (cff : CffFont) → IsSfntFont font → font.tables.outlines ≡ PostScriptOutlines cff → IsCffFont cff
cff_in font cff sound is = subst (AreOutlinesIn font.bytes) is sound.tables_in.outlines

-- ---- where the glyph of a character stands

from-codes : (font : SfntFont) (n : ℕ) (code : ℤ) (codes : List ℤ) → place_from n code (map (outline_glyph font) codes) ≡ code_place_from n code codes
from-codes font n code [] = refl
from-codes font n code (c ∷ codes) = ap (cond (int_eq c code) (Some n)) (from-codes font (n + 1) code codes)

pub outline_place_of : (font : SfntFont) (c : ℕ) → IsSfntFont font → place_of (outline_glyphs font) (pos c) ≡ place_of_code font c
outline_place_of font c is = from-codes font 0 (pos c) (font_codes font) ∙ code_place font c is

pub outline_found : (font : SfntFont) (c : ℕ) → IsSfntFont font → glyph_of (outline_font font) c ≡ option_or (place_of_code font c) (Some (length (font_codes font) - 1))
outline_found font c is =
    ap₂ option_or (outline_place_of font c is)
    (from-codes font 0 missing_code (font_codes font) ∙ missing_place font is)

-- ---- ranges

bar_sound : (bar : Option Bar) → IfSome bar IsFontBar → IfSome bar IsBar
bar_sound None is = tt
bar_sound (Some bar) is = record { top = is.top; size = (is.size, omega (arith, ints, is.size_most)) }

shape_sound : (font : SfntFont) (outlines : Outlines) (g : ℕ) → IsShape (outline_shape font outlines g)
shape_sound font (TrueTypeOutlines loca glyf) g = contours_within font g
shape_sound font (PostScriptOutlines cff) g = contours-within font.bytes cff font.numbers.units g

glyph_sound : (font : SfntFont) (code : ℤ) → IsSfntFont font → IsGlyph (outline_glyph font code)
glyph_sound font code is =
    let g = glyph_of_code font code in
    let most = advance_most font g is in
    record { advance = (omega (arith, ints), omega (arith, ints, most)); shape = shape_sound font font.tables.outlines g }

pub outlines_sound : (font : SfntFont) → IsSfntFont font → IsFont (outline_font font)
outlines_sound font is = record {
  ascent = is.numbers.ascent;
  ascent_most = omega (arith, ints, is.numbers.ascent_most);
  descent = is.numbers.descent;
  descent_most = omega (arith, ints, is.numbers.descent_most);
  glyphs = All-map IsGlyph (outline_glyph font) (font_codes font) (λ k d within. glyph_sound font _ is);
  few = omega (arith, length-map (font_codes font) (outline_glyph font), font_codes_most font is);
  underline = bar_sound font.numbers.underline is.numbers.underline;
  strikeout = bar_sound font.numbers.strikeout is.numbers.strikeout;
  bold_step = (omega (arith, ints), omega (arith, ints, is.numbers.bold_most));
}

pub all_outlines_sound : (fonts : List SfntFont) → All IsSfntFont fonts → All IsFont (map outline_font fonts)
all_outlines_sound [] h = All-nil IsFont
all_outlines_sound (font ∷ fonts) h =
    All-cons IsFont (outline_font font) (map outline_font fonts) (outlines_sound font (All-head IsSfntFont font fonts h)) (all_outlines_sound fonts (All-tail IsSfntFont font fonts h))
