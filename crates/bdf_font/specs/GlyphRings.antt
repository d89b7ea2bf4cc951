-- Public: the rings of a font's glyph.
use Rattle.std.specs.Prelude.{Bool, true, false, ℤ, List, [], ◌∷◌, ◌++◌, Option, Some, None}
use Rattle.ass_num.specs.declared.geometry.Point.{Point}
use Rattle.ass_num.specs.declared.geometry.Matrix.{Matrix}
use Rattle.outline_points.specs.Contours.{contour_rings}
use Rattle.outline_points.specs.CubicContours.{stroke_rings}
use Rattle.outline_points.specs.Glyphs.{Bitmap, bitmap_quads, bar_quad}
use Rattle.sfnt_font.specs.declared.numbers.Bar.{Bar}
use Rattle.bdf_font.specs.declared.glyphs.FontGlyph.{FontGlyph}
use Rattle.bdf_font.specs.declared.glyphs.GlyphShape.{GlyphShape}
use Rattle.bdf_font.specs.declared.glyphs.GlyphShape.TheVariants as shape
use Rattle.bdf_font.specs.declared.glyphs.Pixels.{Pixels}
use Rattle.bdf_font.specs.Fonts.{FontValue}

-- a glyph's bitmap
abbrev pub bitmap_of : Pixels → Bitmap
bitmap_of pixels = record { w = pixels.w; h = pixels.h; x = pixels.x; y = pixels.y; bits = pixels.bits }

-- The rings of a shape. A bold bitmap has each pixel once more one pixel to the right, and bold contours lie once more a step to the right.
abbrev pub shape_rings : Matrix → Bool → ℤ → GlyphShape → List (List Point)
shape_rings m bold step (shape.Pixels pixels) = bitmap_quads m bold (bitmap_of pixels)
shape_rings m bold step (shape.Contours contours) = contour_rings m bold step contours
shape_rings m bold step (shape.Strokes contours) = stroke_rings m bold step contours

-- a bar, where it is wanted and the font has it
abbrev pub bar_rings : Matrix → Bool → ℤ → Option Bar → List (List Point)
bar_rings m false advance bar = []
bar_rings m true advance None = []
bar_rings m true advance (Some bar) = bar_quad m advance bar.top bar.size ∷ []

-- the rings of a glyph of a font: those of its shape, and then the bars
abbrev pub rings_of_glyph : Matrix → Bool → Bool → Bool → FontValue → FontGlyph → List (List Point)
rings_of_glyph m bold underline strikeout font glyph =
    (shape_rings m bold font.bold_step glyph.shape ++ bar_rings m underline glyph.advance font.underline)
    ++ bar_rings m strikeout glyph.advance font.strikeout
