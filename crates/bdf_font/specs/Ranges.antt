-- Public: the ranges of what a font holds.
use Rattle.std.specs.Prelude.{◌≡◌, ℕ, ◌+◌, ◌*◌, ◌/◌, ◌<◌, ◌≤◌, length, All, IfSome, Result, Ok, Err, ℤ, pos, ◌≤ℤ◌}
use Rattle.ass_num.specs.Limits.{IsWithin}
use Rattle.outline_points.specs.Contours.{IsGlyphPoint}
use Rattle.outline_points.specs.CubicContours.{IsGlyphStroke}
use Rattle.sfnt_font.specs.declared.numbers.Bar.{Bar}
use Rattle.bdf_font.specs.Limits.{max_bitmap_side, max_font_glyphs, max_glyphs, max_measure, max_offset}
use Rattle.bdf_font.specs.declared.cause.Stop.{Stop}
use Rattle.bdf_font.specs.declared.cause.Stop.TheVariants as stop
use Rattle.bdf_font.specs.declared.glyphs.FontGlyph.{FontGlyph}
use Rattle.bdf_font.specs.declared.glyphs.GlyphShape.{GlyphShape}
use Rattle.bdf_font.specs.declared.glyphs.GlyphShape.TheVariants as shape
use Rattle.bdf_font.specs.declared.glyphs.Pixels.{Pixels}
use Rattle.bdf_font.specs.declared.glyphs.BoundingBox.{BoundingBox}
use Rattle.bdf_font.specs.declared.header.Header.{Header}
use Rattle.bdf_font.specs.declared.reading.Reading.{Reading}
use Rattle.bdf_font.specs.declared.reading.Draft.{Draft}
use Rattle.bdf_font.specs.declared.reading.LinePlace.{LinePlace}
use Rattle.bdf_font.specs.declared.reading.LinePlace.TheVariants as place
use Rattle.bdf_font.specs.Fonts.{FontValue}

-- within 4,096 on both sides
abbrev pub IsOffset : ℤ → Type 0
IsOffset z = IsWithin max_offset z

pub record IsBox (cell : BoundingBox) : Type 0 where
  pub w : cell.w ≤ max_bitmap_side
  pub h : cell.h ≤ max_bitmap_side
  pub x : IsOffset cell.x
  pub y : IsOffset cell.y

-- a measure of a font, and one that isn't below 0
abbrev pub IsMeasure : ℤ → Type 0
IsMeasure z = IsWithin max_measure z

abbrev pub IsLength : ℤ → Type 0
IsLength z = (pos 0 ≤ℤ z) × (z ≤ℤ pos max_measure)

-- A bitmap that a glyph may have: a row of whole bytes for each line of pixels.
pub record IsBitmap (pixels : Pixels) : Type 0 where
  pub w : pixels.w ≤ max_bitmap_side
  pub h : pixels.h ≤ max_bitmap_side
  pub x : IsOffset pixels.x
  pub y : IsOffset pixels.y
  pub rows : length pixels.bits ≡ pixels.h * ((pixels.w + 7) / 8)

abbrev pub IsShape : GlyphShape → Type 0
IsShape (shape.Pixels pixels) = IsBitmap pixels
IsShape (shape.Contours contours) = All (All IsGlyphPoint) contours
IsShape (shape.Strokes contours) = All (All IsGlyphStroke) contours

-- A glyph that a font may have.
pub record IsGlyph (glyph : FontGlyph) : Type 0 where
  pub advance : IsMeasure glyph.advance
  pub shape : IsShape glyph.shape

pub record IsBar (bar : Bar) : Type 0 where
  pub top : IsMeasure bar.top
  pub size : IsLength bar.size

pub record IsFont (font : FontValue) : Type 0 where
  pub ascent : pos 0 ≤ℤ font.ascent
  pub ascent_most : font.ascent ≤ℤ pos max_measure
  pub descent : pos 0 ≤ℤ font.descent
  pub descent_most : font.descent ≤ℤ pos max_measure
  pub glyphs : All IsGlyph font.glyphs
  pub few : length font.glyphs ≤ max_font_glyphs
  pub underline : IfSome font.underline IsBar
  pub strikeout : IfSome font.strikeout IsBar
  pub bold_step : IsLength font.bold_step

-- ---- while a font is read

pub record IsFontHeader (header : Header) : Type 0 where
  pub bounding_box : IfSome header.bounding_box IsBox
  pub ascent : IfSome header.ascent IsOffset
  pub descent : IfSome header.descent IsOffset

pub record IsDraft (draft : Draft) : Type 0 where
  pub advance : IfSome draft.advance IsOffset
  pub bounding_box : IfSome draft.bounding_box IsBox

-- so many glyphs and bytes of a bitmap there may be at a place
abbrev pub IsReadingPlace : LinePlace → ℕ → ℕ → Type 0
IsReadingPlace place.Start glyphs bytes = glyphs ≤ max_glyphs
IsReadingPlace place.Font glyphs bytes = glyphs ≤ max_glyphs
IsReadingPlace place.Glyph glyphs bytes = glyphs < max_glyphs
IsReadingPlace (place.Bitmap cell left) glyphs bytes = (glyphs < max_glyphs) × IsBox cell × (bytes + left * ((cell.w + 7) / 8) ≡ cell.h * ((cell.w + 7) / 8))

pub record IsFontReading (reading : Reading) : Type 0 where
  pub header : IsFontHeader reading.header
  pub draft : IsDraft reading.draft
  pub glyphs : All IsGlyph reading.glyphs
  pub place : IsReadingPlace reading.place (length reading.glyphs) (length reading.draft.bits)

-- what is kept where the walk goes on, or ends with the font
abbrev pub Keeps : Result (Unit {0}) Stop → Type 0 → Type 0
Keeps (Ok _) kept = kept
Keeps (Err stop.End) kept = kept
Keeps (Err (stop.Fault _)) kept = Unit {0}
Keeps (Err stop.Full) kept = Unit {0}
Keeps (Err stop.OutOfMemory) kept = Unit {0}
