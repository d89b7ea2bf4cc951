-- Fonts of bitmaps: the rings of their glyphs, and in which ranges they are.
use Rattle.std.proofs.Common.{◌≡◌, ℕ, ◌++◌, ◌≤◌, Bool, true, false, List, [], ◌∷◌, length, Option, Some, None, Result, Ok, Err, All, refl, ap, ap₂, sym, subst, ℤ, pos, negsuc, ◌+ℤ◌, ◌≤ℤ◌, arith}
use Rattle.std.specs.Prelude.{if◌then◌else◌, IfOk, IfSome, unwrap_or}
use Rattle.std.proofs.lemmas.Int.{ints}
use Rattle.std.proofs.lemmas.List.Elements.{All-nil, All-cons}
use Rattle.ass_num.proofs.Floor.{floor_div_within}
use Rattle.ass_num.specs.declared.geometry.Matrix.{Matrix}
use Rattle.ass_num.specs.declared.geometry.Point.{Point}
use Rattle.outline_points.specs.Glyphs.{bitmap_quads, quad}
use Rattle.bdf_font.specs.declared.glyphs.FontGlyph.{FontGlyph}
use Rattle.bdf_font.specs.declared.glyphs.BoundingBox.{BoundingBox}
use Rattle.bdf_font.specs.declared.glyphs.Pixels.{Pixels}
use Rattle.bdf_font.specs.Fonts.{FontValue, bitmap_font, pixel_bar, strikeout_top}
use Rattle.bdf_font.specs.GlyphRings.{bar_rings, bitmap_of}
use Rattle.bdf_font.specs.Grammar.{Block, Single, Glyph, box_depth, box_top, from_zero, glyph_in, glyphs_of}
use Rattle.bdf_font.specs.Laws.{HasBitmapRings}
use Rattle.bdf_font.specs.Limits.{max_ascent, max_glyphs, max_offset}
use Rattle.bdf_font.specs.Pixels.{bitmap_glyph}
use Rattle.bdf_font.specs.Ranges.{IsBar, IsBitmap, IsBox, IsFont, IsGlyph, IsMeasure, IsOffset}

-- a bar one pixel high
bar_is : (m : Matrix) (wanted : Bool) (advance top : ℤ) (bottom : ℤ) → bottom ≡ top +ℤ pos 1 → bar_rings m wanted advance (Some (pixel_bar top)) ≡ (if wanted then quad m (pos 0) top advance bottom ∷ [] else [])
bar_is m true advance top bottom e = ap (λ y. quad m (pos 0) top advance y ∷ []) (sym e)
bar_is m false advance top bottom e = refl

pub glyph_has : (m : Matrix) (bold underline strikeout : Bool) (name : List ℕ) (ascent descent : ℤ) (default_char : Option ℤ) (glyphs : List FontGlyph) (code advance : ℤ) (pixels : Pixels) →
    HasBitmapRings m bold underline strikeout (bitmap_font name ascent descent default_char glyphs) (bitmap_glyph code advance pixels)
glyph_has m bold underline strikeout name ascent descent default_char glyphs code advance pixels = record {
  pixels = pixels;
  shape = refl;
  rings = ap₂ (λ (lower upper : List (List Point)). (bitmap_quads m bold (bitmap_of pixels) ++ lower) ++ upper)
      (bar_is m underline advance (pos 1) (pos 2) refl) (bar_is m strikeout advance (strikeout_top ascent) (strikeout_top ascent +ℤ pos 1) refl);
}

-- all glyphs of blocks are those of bitmaps
pub all_bitmaps : (P : FontGlyph → Type 0) → ((code advance : ℤ) (pixels : Pixels) → P (bitmap_glyph code advance pixels)) → (blocks : List Block) → All P (glyphs_of blocks)
all_bitmaps P each [] = All-nil P
all_bitmaps P each (Single line ∷ blocks) = all_bitmaps P each blocks
all_bitmaps P each (Glyph g ∷ blocks) = All-cons P (glyph_in g.head g.rows) (glyphs_of blocks) (each _ _ _) (all_bitmaps P each blocks)

-- ---- ranges

top_within : (ascent : ℤ) → pos 0 ≤ℤ ascent → ascent ≤ℤ pos max_ascent → IsBar (pixel_bar (strikeout_top ascent))
top_within ascent least most =
    let half = floor_div_within (pos 0) (pos max_ascent) ascent 2 (omega arith) (omega (arith, ints, least)) (omega (arith, ints, least, most)) in
    record { top = (omega (arith, ints, half), omega (arith, ints, half)); size = (omega (arith, ints), omega (arith, ints)) }

pub glyph_sound : (code advance : ℤ) (pixels : Pixels) → IsMeasure advance → IsBitmap pixels → IsGlyph (bitmap_glyph code advance pixels)
glyph_sound code advance pixels within sound = record { advance = within; shape = sound }

pub bitmaps_sound : (name : List ℕ) (ascent descent : ℤ) (default_char : Option ℤ) (glyphs : List FontGlyph) → pos 0 ≤ℤ ascent → ascent ≤ℤ pos max_ascent → pos 0 ≤ℤ descent → descent ≤ℤ pos max_offset →
    All IsGlyph glyphs → length glyphs ≤ max_glyphs → IsFont (bitmap_font name ascent descent default_char glyphs)
bitmaps_sound name ascent descent default_char glyphs a b d e sound few = record {
  ascent = a;
  ascent_most = omega (arith, ints, b);
  descent = d;
  descent_most = omega (arith, ints, e);
  glyphs = sound;
  few = omega (arith, few);
  underline = record { top = (omega (arith, ints), omega (arith, ints)); size = (omega (arith, ints), omega (arith, ints)) };
  strikeout = top_within ascent a b;
  bold_step = (omega (arith, ints), omega (arith, ints));
}

zero_within : (z : ℤ) (most : ℕ) → z ≤ℤ pos most → (pos 0 ≤ℤ from_zero z) × (from_zero z ≤ℤ pos most)
zero_within (pos n) most h = (omega (arith, ints), h)
zero_within (negsuc n) most h = (omega (arith, ints), omega (arith, ints))

-- a height that is given, or else another
pub height_within : (given : Option ℤ) (other : ℤ) (most : ℕ) → IfSome given IsOffset → max_offset ≤ most → other ≤ℤ pos most → (pos 0 ≤ℤ from_zero (unwrap_or given other)) × (from_zero (unwrap_or given other) ≤ℤ pos most)
height_within None other most is wide h = zero_within other most h
height_within (Some z) other most is wide h = zero_within z most (omega (arith, ints, is, wide))

pub top_most : (cell : Option BoundingBox) → IfSome cell IsBox → box_top cell ≤ℤ pos max_ascent
top_most None is = omega (arith, ints)
top_most (Some cell) is = omega (arith, ints, is.h, is.y)

pub depth_most : (cell : Option BoundingBox) → IfSome cell IsBox → box_depth cell ≤ℤ pos max_offset
depth_most None is = omega (arith, ints)
depth_most (Some cell) is = omega (arith, ints, is.y)

pub ok_sound : {E : Type 0} (answer : Result FontValue E) (font : FontValue) → IfOk answer (λ made. made ≡ font) → IsFont font → IfOk answer IsFont
ok_sound (Ok made) font e sound = subst IsFont (sym e) sound
ok_sound (Err refused) font e sound = tt
