-- Public: what holds of every text, in the words of its lines, and of every file.
use Rattle.std.specs.Prelude.{◌≡◌, ℕ, ◌+◌, ◌<◌, ◌≤◌, Bool, true, false, if◌then◌else◌, List, [], ◌∷◌, ◌++◌, length, slice_index_or, All, Some, IsSome, Result, Ok, Err, ℤ, pos, ◌+ℤ◌}
use Rattle.std.specs.List.{Any}
use Rattle.ass_num.specs.declared.geometry.Point.{Point}
use Rattle.ass_num.specs.declared.geometry.Matrix.{Matrix}
use Rattle.outline_points.specs.Glyphs.{Bitmap, bitmap_quads, quad}
use Rattle.bdf_font.specs.declared.cause.FontCause.{FontCause}
use Rattle.bdf_font.specs.declared.cause.FontCause.TheVariants.{NoEnd}
use Rattle.bdf_font.specs.declared.cause.FontFileRefusal.{FontFileRefusal}
use Rattle.bdf_font.specs.declared.cause.FontRefusal.{FontRefusal}
use Rattle.bdf_font.specs.declared.cause.FontRefusal.TheVariants.{BadFont}
use Rattle.bdf_font.specs.declared.glyphs.FontGlyph.{FontGlyph}
use Rattle.bdf_font.specs.declared.glyphs.GlyphShape.TheVariants as shape
use Rattle.bdf_font.specs.declared.glyphs.Pixels.{Pixels}
use Rattle.bdf_font.specs.declared.keyword.Keyword.TheVariants as keyword
use Rattle.bdf_font.specs.declared.keyword.GlyphKeyword.{GlyphKeyword}
use Rattle.bdf_font.specs.declared.keyword.HeaderKeyword.TheVariants as in_header
use Rattle.bdf_font.specs.declared.keyword.PropertyKeyword.{PropertyKeyword}
use Rattle.bdf_font.specs.Words.{after_word}
use Rattle.bdf_font.specs.Files.{IsFontFileAnswer}
use Rattle.bdf_font.specs.Fonts.{FontValue, glyph_of, strikeout_top}
use Rattle.bdf_font.specs.GlyphRings.{bitmap_of, rings_of_glyph}
use Rattle.bdf_font.specs.Grammar.{IsFontAnswer, says, is_read, open_after, glyph_in, font_said}
use Rattle.bdf_font.specs.Limits.{max_fonts}
use Rattle.bdf_font.specs.Sets.{AreBitmapFonts, IsBitmapFont, font_chosen, font_named, name_distance, no_font, glyph_place_in, set_glyph_of}

-- Each list of lines has exactly one answer.
abbrev pub OneAnswer : Type 0
OneAnswer = (lines : List (List ℕ)) → (answer : Result FontValue FontRefusal) × IsFontAnswer lines answer × ((other : Result FontValue FontRefusal) → IsFontAnswer lines other → other ≡ answer)

-- So has each file.
abbrev pub OneFileAnswer : Type 0
OneFileAnswer = (bytes : List ℕ) → (answer : Result (List FontValue) FontFileRefusal) × IsFontFileAnswer bytes answer
    × ((other : Result (List FontValue) FontFileRefusal) → IsFontFileAnswer bytes other → other ≡ answer)

-- A file that isn't refused has from 1 to 64 fonts.
abbrev pub FilesHaveFonts : Type 0
FilesHaveFonts = (bytes : List ℕ) (fonts : List FontValue) → IsFontFileAnswer bytes (Ok fonts) → (0 < length fonts) × (length fonts ≤ max_fonts)

-- What follows the end of a font changes nothing.
abbrev pub EndsTheFont : Type 0
EndsTheFont = (lines more : List (List ℕ)) (font : FontValue) → IsFontAnswer lines (Ok font) → IsFontAnswer (lines ++ more) (Ok font)

-- The lines before the one that is refused lack an end alone.
abbrev pub IsFirstFault : Type 0
IsFirstFault = (front rest : List (List ℕ)) (cause : FontCause) → IsFontAnswer (front ++ rest) (Err (BadFont (1 + length front) cause)) → IsFontAnswer front (Err (BadFont (1 + length front) NoEnd))

-- A line that is refused is refused whatever follows it.
abbrev pub StaysRefused : Type 0
StaysRefused = (front : List (List ℕ)) (line : List ℕ) (rest more : List (List ℕ)) (cause : FontCause) →
    IsFontAnswer (front ++ line ∷ rest) (Err (BadFont (1 + length front) cause)) → IsFontAnswer (front ++ line ∷ more) (Err (BadFont (1 + length front) cause))

-- Of two lines of a glyph's keyword, with any lines between them, the earlier one changes nothing.
abbrev pub LaterGlyphLineCounts : Type 0
LaterGlyphLineCounts = (kind : GlyphKeyword) (front : List (List ℕ)) (earlier : List ℕ) (mid : List (List ℕ)) (later : List ℕ) (back rows : List (List ℕ)) →
    says earlier ≡ keyword.Glyph kind → says later ≡ keyword.Glyph kind → is_read true (keyword.Glyph kind) (after_word later) ≡ true →
    glyph_in (front ++ earlier ∷ mid ++ later ∷ back) rows ≡ glyph_in (front ++ mid ++ later ∷ back) rows

-- The same of two FONT lines and of two FONTBOUNDINGBOX lines.
abbrev pub LaterFontLineCounts : Type 0
LaterFontLineCounts = (front : List (List ℕ)) (earlier : List ℕ) (mid : List (List ℕ)) (later : List ℕ) (back : List (List ℕ)) (glyphs : List FontGlyph) →
    (says earlier ≡ keyword.Header in_header.Name → says later ≡ keyword.Header in_header.Name →
    font_said (front ++ earlier ∷ mid ++ later ∷ back) glyphs ≡ font_said (front ++ mid ++ later ∷ back) glyphs)
    × (says earlier ≡ keyword.Header in_header.Box → says later ≡ keyword.Header in_header.Box → is_read true (keyword.Header in_header.Box) (after_word later) ≡ true →
    font_said (front ++ earlier ∷ mid ++ later ∷ back) glyphs ≡ font_said (front ++ mid ++ later ∷ back) glyphs)

-- The same of two lines of a property, of which the later stands between the property lines.
abbrev pub LaterPropertyCounts : Type 0
LaterPropertyCounts = (kind : PropertyKeyword) (front : List (List ℕ)) (earlier : List ℕ) (mid : List (List ℕ)) (later : List ℕ) (back : List (List ℕ)) (glyphs : List FontGlyph) →
    says earlier ≡ keyword.Header (in_header.Property kind) → says later ≡ keyword.Header (in_header.Property kind) →
    open_after false (front ++ earlier ∷ mid) ≡ true → is_read true (keyword.Header (in_header.Property kind)) (after_word later) ≡ true →
    font_said (front ++ earlier ∷ mid ++ later ∷ back) glyphs ≡ font_said (front ++ mid ++ later ∷ back) glyphs

-- ---- the rings of glyphs of bitmaps

-- The rings of a bitmap in a font with this ascent: its pixels, and bars one pixel high, one pixel below the baseline and in half of the ascent.
abbrev pub bitmap_rings : Matrix → Bool → Bool → Bool → ℤ → ℤ → Bitmap → List (List Point)
bitmap_rings m bold underline strikeout ascent advance bitmap =
    (bitmap_quads m bold bitmap ++ (if underline then quad m (pos 0) (pos 1) advance (pos 2) ∷ [] else []))
    ++ (if strikeout then quad m (pos 0) (strikeout_top ascent) advance (strikeout_top ascent +ℤ pos 1) ∷ [] else [])

-- The glyph has a bitmap, and its rings are those of that.
pub record HasBitmapRings (m : Matrix) (bold underline strikeout : Bool) (font : FontValue) (glyph : FontGlyph) : Type 0 where
  pub pixels : Pixels
  pub shape : glyph.shape ≡ shape.Pixels pixels
  pub rings : rings_of_glyph m bold underline strikeout font glyph ≡ bitmap_rings m bold underline strikeout font.ascent glyph.advance (bitmap_of pixels)

-- All glyphs of a font that lines spell are so.
abbrev pub BitmapRingsStay : Type 0
BitmapRingsStay = (lines : List (List ℕ)) (font : FontValue) → IsFontAnswer lines (Ok font) → (m : Matrix) (bold underline strikeout : Bool) → All (HasBitmapRings m bold underline strikeout font) font.glyphs

-- ---- sets of fonts

-- Each font that lines spell is found by its name alone.
abbrev pub LinesSpellBitmapFonts : Type 0
LinesSpellBitmapFonts = (lines : List (List ℕ)) (font : FontValue) → IsFontAnswer lines (Ok font) → IsBitmapFont font

-- Among bitmaps a name finds the first font of this name, whether bold or italic.
abbrev pub BitmapsAreFoundByName : Type 0
BitmapsAreFoundByName = (fonts : List FontValue) → AreBitmapFonts fonts → (name : List ℕ) (bold italic : Bool) → font_chosen name bold italic fonts ≡ font_named name fonts

-- Among bitmaps the glyph of a character is that of the font itself.
abbrev pub BitmapsKeepTheirGlyphs : Type 0
BitmapsKeepTheirGlyphs = (fonts : List FontValue) → AreBitmapFonts fonts → (number c : ℕ) →
    set_glyph_of fonts number c ≡ glyph_place_in number (glyph_of (slice_index_or fonts number no_font) c)

-- The font at a place answers to the name, none that does is nearer to what is asked for, and none before it is as near.
pub record IsNearest (name : List ℕ) (bold italic : Bool) (fonts : List FontValue) (place : ℕ) : Type 0 where
  pub within : place < length fonts
  pub distance : ℕ
  pub found : name_distance name bold italic (slice_index_or fonts place no_font) ≡ Some distance
  pub nearest : (other far : ℕ) → other < length fonts → name_distance name bold italic (slice_index_or fonts other no_font) ≡ Some far → distance ≤ far
  pub first : (other far : ℕ) → other < place → name_distance name bold italic (slice_index_or fonts other no_font) ≡ Some far → distance < far

-- A name to which a font of the set answers finds the nearest.
abbrev pub NearestIsFound : Type 0
NearestIsFound = (fonts : List FontValue) (name : List ℕ) (bold italic : Bool) →
    Any (λ font. IsSome (name_distance name bold italic font)) fonts → IsNearest name bold italic fonts (font_chosen name bold italic fonts)
