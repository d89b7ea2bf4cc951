-- Public: glyphs by their shapes, and which bitmaps have a set pixel.
use Rattle.std.specs.Prelude.{ℕ, Bool, false, not, List, [], Option, Some, None, ℤ}
use Rattle.std.specs.List.{list_any, range_with_len}
use Rattle.ass_num.specs.Bitmaps.{pixel_is_set}
use Rattle.outline_points.specs.declared.glyph_point.GlyphPoint.{GlyphPoint}
use Rattle.outline_points.specs.declared.stroke.Stroke.{Stroke}
use Rattle.bdf_font.specs.declared.glyphs.FontGlyph.{FontGlyph}
use Rattle.bdf_font.specs.declared.glyphs.GlyphShape.{GlyphShape}
use Rattle.bdf_font.specs.declared.glyphs.GlyphShape.TheVariants as shape
use Rattle.bdf_font.specs.declared.glyphs.Pixels.{Pixels}

-- whether a row of a bitmap has a set pixel
abbrev pub row_has_pixels : Pixels → ℕ → Bool
row_has_pixels pixels j = list_any (λ i. pixel_is_set pixels.w pixels.bits i j) (range_with_len 0 pixels.w)

-- whether a bitmap has one
abbrev pub has_pixels : Pixels → Bool
has_pixels pixels = list_any (row_has_pixels pixels) (range_with_len 0 pixels.h)

-- the glyph of a bitmap
abbrev pub bitmap_glyph : ℤ → ℤ → Pixels → FontGlyph
bitmap_glyph code advance pixels = record { code = code; advance = advance; blank = not (has_pixels pixels); missing = false; shape = shape.Pixels pixels }

-- the bitmap of a shape, and the contours of one
abbrev pub pixels_in : GlyphShape → Option Pixels
pixels_in (shape.Pixels pixels) = Some pixels
pixels_in (shape.Contours contours) = None
pixels_in (shape.Strokes contours) = None

abbrev pub contours_in : GlyphShape → List (List GlyphPoint)
contours_in (shape.Pixels pixels) = []
contours_in (shape.Contours contours) = contours
contours_in (shape.Strokes contours) = []

abbrev pub strokes_in : GlyphShape → List (List Stroke)
strokes_in (shape.Pixels pixels) = []
strokes_in (shape.Contours contours) = []
strokes_in (shape.Strokes contours) = contours
