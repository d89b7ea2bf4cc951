-- What a font's glyph is drawn from.
use Rattle.std.proofs.Common.{◌≡◌, ℕ, ◌<◌, ◌++◌, ◌∷◌, Bool, true, false, ℤ, pos, ◌+ℤ◌, List, [], length, get_or, Option, Some, None, slice_get, option_and_then, refl, sym, ap, subst, ◌∙◌}
use Rattle.std.specs.List.{All}
use Rattle.std.specs.Option.{option_map_or}
use Rattle.std.proofs.lemmas.List.{append-nil}
use Rattle.std.proofs.lemmas.List.Elements.{All-get_or, All-nil}
use Rattle.std.proofs.lemmas.Option.{slice_get-get_or}
use Rattle.ass_num.specs.declared.geometry.Matrix.{Matrix}
use Rattle.ass_num.specs.declared.geometry.Point.{Point}
use Rattle.bdf_font.specs.Fonts.{FontValue}
use Rattle.bdf_font.specs.GlyphRings.{bar_rings, bitmap_of, rings_of_glyph, shape_rings}
use Rattle.bdf_font.specs.Pixels.{contours_in, pixels_in, strokes_in}
use Rattle.bdf_font.specs.Ranges.{IsBitmap, IsGlyph, IsMeasure, IsShape}
use Rattle.bdf_font.specs.declared.glyphs.FontGlyph.{FontGlyph}
use Rattle.bdf_font.specs.declared.glyphs.GlyphShape.{GlyphShape}
use Rattle.bdf_font.specs.declared.glyphs.GlyphShape.TheVariants as shape
use Rattle.bdf_font.specs.declared.glyphs.Pixels.{Pixels}
use Rattle.outline_points.specs.Contours.{IsGlyphPoint, contour_rings}
use Rattle.outline_points.specs.CubicContours.{IsGlyphStroke, stroke_rings}
use Rattle.outline_points.specs.Glyphs.{bar_quad, bitmap_quads, quad}
use Rattle.outline_points.specs.declared.glyph_point.GlyphPoint.{GlyphPoint}
use Rattle.outline_points.specs.declared.stroke.Stroke.{Stroke}
use Rattle.sfnt_font.specs.declared.numbers.Bar.{Bar}

-- ---- a shape by what is in it
bitmap_in : (s : GlyphShape) (p : Pixels) → IsShape s → Some p ≡ pixels_in s → IsBitmap p
bitmap_in (shape.Pixels q) p whole is = let e : p ≡ q = cc is in subst IsBitmap (sym e) whole
bitmap_in (shape.Contours contours) p whole is = absurd (cc is)
bitmap_in (shape.Strokes contours) p whole is = absurd (cc is)

points_in : (s : GlyphShape) → IsShape s → All (All IsGlyphPoint) (contours_in s)
points_in (shape.Pixels q) whole = All-nil (All IsGlyphPoint)
points_in (shape.Contours contours) whole = whole
points_in (shape.Strokes contours) whole = All-nil (All IsGlyphPoint)

held_strokes : (s : GlyphShape) → IsShape s → All (All IsGlyphStroke) (strokes_in s)
held_strokes (shape.Pixels q) whole = All-nil (All IsGlyphStroke)
held_strokes (shape.Contours contours) whole = All-nil (All IsGlyphStroke)
held_strokes (shape.Strokes contours) whole = whole

no_contours : (m : Matrix) (bold : Bool) (step : ℤ) → contour_rings m bold step [] ≡ []
no_contours m true step = refl
no_contours m false step = refl

no_strokes : (m : Matrix) (bold : Bool) (step : ℤ) → stroke_rings m bold step [] ≡ []
no_strokes m true step = refl
no_strokes m false step = refl

pub shape_pixels : (m : Matrix) (bold : Bool) (step : ℤ) (s : GlyphShape) (p : Pixels) → Some p ≡ pixels_in s → bitmap_quads m bold (bitmap_of p) ≡ shape_rings m bold step s
shape_pixels m bold step (shape.Pixels q) p is = let e : p ≡ q = cc is in ap (λ z. bitmap_quads m bold (bitmap_of z)) e
shape_pixels m bold step (shape.Contours contours) p is = absurd (cc is)
shape_pixels m bold step (shape.Strokes contours) p is = absurd (cc is)

pub shape_contours : (m : Matrix) (bold : Bool) (step : ℤ) (s : GlyphShape) → None ≡ pixels_in s
    → contour_rings m bold step (contours_in s) ++ stroke_rings m bold step (strokes_in s) ≡ shape_rings m bold step s
shape_contours m bold step (shape.Pixels q) is = absurd (cc is)
shape_contours m bold step (shape.Contours contours) is = ap (λ rs. contour_rings m bold step contours ++ rs) (no_strokes m bold step) ∙ append-nil (contour_rings m bold step contours)
shape_contours m bold step (shape.Strokes contours) is = ap (λ rs. rs ++ stroke_rings m bold step contours) (no_contours m bold step)

-- ---- what is read at a place of a font's glyphs
abbrev pixels_read : List FontGlyph → ℕ → Option Pixels
pixels_read glyphs at = option_and_then (λ (glyph : FontGlyph). pixels_in glyph.shape) (slice_get glyphs at)

abbrev contours_read : List FontGlyph → ℕ → List (List GlyphPoint)
contours_read glyphs at = option_map_or (λ (glyph : FontGlyph). contours_in glyph.shape) (slice_get glyphs at) []

abbrev strokes_read : List FontGlyph → ℕ → List (List Stroke)
strokes_read glyphs at = option_map_or (λ (glyph : FontGlyph). strokes_in glyph.shape) (slice_get glyphs at) []

abbrev advance_read : List FontGlyph → ℕ → ℤ
advance_read glyphs at = option_map_or (λ (glyph : FontGlyph). glyph.advance) (slice_get glyphs at) (pos 0)

pub pixels_is : (glyphs : List FontGlyph) (at : ℕ) (g : FontGlyph) (found : Option Pixels) → slice_get glyphs at ≡ Some g → found ≡ pixels_read glyphs at → found ≡ pixels_in g.shape
pixels_is glyphs at g found is read = read ∙ ap (option_and_then (λ (glyph : FontGlyph). pixels_in glyph.shape)) is

pub contours_are : (glyphs : List FontGlyph) (at : ℕ) (g : FontGlyph) (contours : List (List GlyphPoint)) → slice_get glyphs at ≡ Some g → contours ≡ contours_read glyphs at → contours ≡ contours_in g.shape
contours_are glyphs at g contours is read = read ∙ ap (λ found. option_map_or (λ (glyph : FontGlyph). contours_in glyph.shape) found []) is

pub strokes_are : (glyphs : List FontGlyph) (at : ℕ) (g : FontGlyph) (contours : List (List Stroke)) → slice_get glyphs at ≡ Some g → contours ≡ strokes_read glyphs at → contours ≡ strokes_in g.shape
strokes_are glyphs at g contours is read = read ∙ ap (λ found. option_map_or (λ (glyph : FontGlyph). strokes_in glyph.shape) found []) is

pub advance_is : (glyphs : List FontGlyph) (at : ℕ) (g : FontGlyph) (advance : ℤ) → slice_get glyphs at ≡ Some g → advance ≡ advance_read glyphs at → advance ≡ g.advance
advance_is glyphs at g advance is read = read ∙ ap (λ found. option_map_or (λ (glyph : FontGlyph). glyph.advance) found (pos 0)) is

abbrev glyph_at : List FontGlyph → ℕ → FontGlyph
glyph_at glyphs at = get_or glyphs at (record { code = pos 0; advance = pos 0; blank = true; missing = true; shape = shape.Contours [] })

is_glyph : (glyphs : List FontGlyph) (at : ℕ) → All IsGlyph glyphs → at < length glyphs → IsGlyph (glyph_at glyphs at)
is_glyph glyphs at whole within = All-get_or IsGlyph glyphs at _ within whole

pub bitmap_at : (glyphs : List FontGlyph) (at : ℕ) (p : Pixels) → All IsGlyph glyphs → at < length glyphs → Some p ≡ pixels_read glyphs at → IsBitmap p
bitmap_at glyphs at p whole within read =
    bitmap_in (glyph_at glyphs at).shape p (is_glyph glyphs at whole within).shape (pixels_is glyphs at (glyph_at glyphs at) (Some p) (slice_get-get_or glyphs at _ within) read)

pub points_at : (glyphs : List FontGlyph) (at : ℕ) (contours : List (List GlyphPoint)) → All IsGlyph glyphs → at < length glyphs → contours ≡ contours_read glyphs at → All (All IsGlyphPoint) contours
points_at glyphs at contours whole within read =
    subst (All (All IsGlyphPoint)) (sym (contours_are glyphs at (glyph_at glyphs at) contours (slice_get-get_or glyphs at _ within) read))
    (points_in (glyph_at glyphs at).shape (is_glyph glyphs at whole within).shape)

pub strokes_held : (glyphs : List FontGlyph) (at : ℕ) (contours : List (List Stroke)) → All IsGlyph glyphs → at < length glyphs → contours ≡ strokes_read glyphs at → All (All IsGlyphStroke) contours
strokes_held glyphs at contours whole within read =
    subst (All (All IsGlyphStroke)) (sym (strokes_are glyphs at (glyph_at glyphs at) contours (slice_get-get_or glyphs at _ within) read))
    (held_strokes (glyph_at glyphs at).shape (is_glyph glyphs at whole within).shape)

pub advance_within : (glyphs : List FontGlyph) (at : ℕ) (advance : ℤ) → All IsGlyph glyphs → at < length glyphs → advance ≡ advance_read glyphs at → IsMeasure advance
advance_within glyphs at advance whole within read =
    subst IsMeasure (sym (advance_is glyphs at (glyph_at glyphs at) advance (slice_get-get_or glyphs at _ within) read)) (is_glyph glyphs at whole within).advance

-- ---- the rings of a glyph
pub bar_added : (m : Matrix) (a advance t top s size : ℤ) (rings new : List (List Point)) → a ≡ advance → t ≡ top → s ≡ size → new ≡ rings ++ quad m (pos 0) t a (t +ℤ s) ∷ [] → new ≡ rings ++ bar_quad m advance top size ∷ []
bar_added m a advance t top s size rings new p q r is = rw (is, p, q, r) refl

pub bars_read : (m : Matrix) (underline strikeout : Bool) (font : FontValue) (advance : ℤ) (below through : Option Bar) (g : FontGlyph) (r s t : List (List Point)) → advance ≡ g.advance
    → below ≡ font.underline → through ≡ font.strikeout → s ≡ r ++ bar_rings m underline advance below → t ≡ s ++ bar_rings m strikeout advance through
    → t ≡ (r ++ bar_rings m underline g.advance font.underline) ++ bar_rings m strikeout g.advance font.strikeout
bars_read m underline strikeout font advance below through g r s t same first second p q = rw (q, p, same, first, second) refl

pub glyph_whole : (m n : Matrix) (bold strong underline strikeout : Bool) (font : FontValue) (g : FontGlyph) (r u : List (List Point)) → m ≡ n → bold ≡ strong → r ≡ shape_rings m bold font.bold_step g.shape
    → u ≡ (r ++ bar_rings m underline g.advance font.underline) ++ bar_rings m strikeout g.advance font.strikeout → u ≡ rings_of_glyph n strong underline strikeout font g
glyph_whole m n bold strong underline strikeout font g r u a b shape bars = rw (bars, shape, a, b) refl
