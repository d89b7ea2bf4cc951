-- Inner: what one line does to what the reader has read: the words of its own functions. What a text says as a whole is in Grammar.
use Rattle.std.specs.Prelude.{◌≡◌, ℕ, ◌+◌, ◌-◌, ◌/◌, ◌==◌, ◌⊎◌, nat_le, true, false, if◌then◌else◌, List, [], ◌∷◌, ◌++◌, length, Option, Some, None, unwrap_or, Result, Ok, Err, ℤ, pos, negsuc}
use Rattle.hex.specs.Hex.{decode_sized}
use Rattle.hex.specs.declared.error.FromHexError.{FromHexError}
use Rattle.ass_num.specs.Blanks.{trimmed}
use Rattle.bdf_font.specs.Limits.{max_glyphs}
use Rattle.bdf_font.specs.Words.{first_word, after_word, offset_of, bounding_box_of, family_name_of}
use Rattle.ass_num.specs.Wholes.{whole_of}
use Rattle.bdf_font.specs.Keywords.{keyword_of}
use Rattle.bdf_font.specs.Fonts.{FontValue, bitmap_font}
use Rattle.bdf_font.specs.Pixels.{bitmap_glyph}
use Rattle.bdf_font.specs.Grammar.{from_zero, box_top, box_depth, cell_pixels}
use Rattle.bdf_font.specs.Rows.{Outcome, Next, End, Fault, Full, outcome_map, row_pushed}
use Rattle.bdf_font.specs.declared.cause.FontCause.TheVariants.{NoStart, BadNumber, BadRow, Misplaced}
use Rattle.bdf_font.specs.declared.cause.FontRefusal.{FontRefusal}
use Rattle.bdf_font.specs.declared.cause.FontRefusal.TheVariants as refusal
use Rattle.bdf_font.specs.declared.cause.FontRefusal.TheVariants.{BadFont, TooLarge}
use Rattle.bdf_font.specs.declared.cause.Stop.{Stop}
use Rattle.bdf_font.specs.declared.cause.Stop.TheVariants as stop
use Rattle.bdf_font.specs.declared.glyphs.FontGlyph.{FontGlyph}
use Rattle.bdf_font.specs.declared.glyphs.BoundingBox.{BoundingBox}
use Rattle.bdf_font.specs.declared.header.Header.{Header}
use Rattle.bdf_font.specs.declared.reading.Reading.{Reading}
use Rattle.bdf_font.specs.declared.reading.Draft.{Draft}
use Rattle.bdf_font.specs.declared.reading.LinePlace.{LinePlace}
use Rattle.bdf_font.specs.declared.reading.LinePlace.TheVariants as place
use Rattle.bdf_font.specs.declared.keyword.Keyword.{Keyword}
use Rattle.bdf_font.specs.declared.keyword.GlyphKeyword.{GlyphKeyword}
use Rattle.bdf_font.specs.declared.keyword.HeaderKeyword.{HeaderKeyword}
use Rattle.bdf_font.specs.declared.keyword.PropertyKeyword.{PropertyKeyword}
use Rattle.bdf_font.specs.declared.keyword.Keyword.TheVariants as keyword
use Rattle.bdf_font.specs.declared.keyword.GlyphKeyword.TheVariants as in_glyph
use Rattle.bdf_font.specs.declared.keyword.HeaderKeyword.TheVariants as in_header
use Rattle.bdf_font.specs.declared.keyword.PropertyKeyword.TheVariants as property

-- what follows from a number, where there is one
abbrev pub with_number : {N S : Type 0} → Option N → (N → S) → Outcome S
with_number None f = Fault BadNumber
with_number (Some n) f = Next (f n)

-- ---- the font itself

abbrev pub no_header : Header
no_header = record { properties = false; title = None; family = None; bounding_box = None; ascent = None; descent = None; default_char = None }

-- a property; it replaces what an earlier one of its name said
abbrev pub property_line : PropertyKeyword → List ℕ → Header → Outcome Header
property_line property.Ascent rest header = with_number (offset_of (first_word rest)) (λ n. record header { ascent = Some n })
property_line property.Descent rest header = with_number (offset_of (first_word rest)) (λ n. record header { descent = Some n })
property_line property.DefaultChar rest header = with_number (whole_of (first_word rest)) (λ n. record header { default_char = Some n })
property_line property.FamilyName rest header = Next (record header { family = Some (family_name_of rest) })

-- A line of the font itself; it replaces what an earlier one of its keyword said. Properties count between the property lines alone.
abbrev pub header_step : HeaderKeyword → List ℕ → Header → Outcome Header
header_step in_header.Name rest header = Next (record header { title = Some (trimmed rest) })
header_step in_header.Box rest header = with_number (bounding_box_of rest) (λ b. record header { bounding_box = Some b })
header_step in_header.StartProperties rest header = Next (record header { properties = true })
header_step in_header.EndProperties rest header = Next (record header { properties = false })
header_step (in_header.Property keyword) rest header = if header.properties then property_line keyword rest header else Next header

-- ---- a glyph

abbrev pub no_glyph : Draft
no_glyph = record { code = negsuc 0; advance = None; bounding_box = None; bits = [] }

-- a number of a glyph; it replaces what an earlier line of its keyword said
abbrev pub draft_line : GlyphKeyword → List ℕ → Draft → Outcome Draft
draft_line in_glyph.Encoding rest draft = with_number (whole_of (first_word rest)) (λ n. record draft { code = n })
draft_line in_glyph.Width rest draft = with_number (offset_of (first_word rest)) (λ n. record draft { advance = Some n })
draft_line in_glyph.Box rest draft = with_number (bounding_box_of rest) (λ b. record draft { bounding_box = Some b })
draft_line in_glyph.Bitmap rest draft = Fault Misplaced
draft_line in_glyph.EndChar rest draft = Fault Misplaced

-- a missing advance is the width
abbrev pub advance_or : Option ℤ → ℕ → ℤ
advance_or (Some advance) w = advance
advance_or None w = pos w

abbrev pub made_glyph : Draft → BoundingBox → FontGlyph
made_glyph draft cell = bitmap_glyph draft.code (advance_or draft.advance cell.w) (cell_pixels cell draft.bits)

-- ---- lines by where they stand

abbrev pub no_font_lines : Reading
no_font_lines = record { place = place.Start; header = no_header; glyphs = []; draft = no_glyph }

-- before STARTFONT, where other words than keywords are passed over; so are properties, since no property lines stand there
abbrev pub first_line : Keyword → Reading → Outcome Reading
first_line keyword.StartFont reading = Next (record reading { place = place.Font })
first_line keyword.Unknown reading = Next reading
first_line (keyword.Header (in_header.Property _)) reading = Next reading
first_line _ reading = Fault NoStart

-- in the font, outside its glyphs
abbrev pub font_step : Keyword → List ℕ → Reading → Outcome Reading
font_step keyword.StartFont rest reading = Next reading
font_step keyword.EndFont rest reading = End reading
font_step keyword.StartChar rest reading = if nat_le max_glyphs (length reading.glyphs) then Full else Next (record reading { place = place.Glyph })
font_step (keyword.Glyph _) rest reading = Fault Misplaced
font_step (keyword.Header keyword) rest reading = outcome_map (λ header. record reading { header = header }) (header_step keyword rest reading.header)
font_step keyword.Unknown rest reading = Next reading

-- a bitmap begins, of as many rows as the box is high
abbrev pub bitmap_begun : Option BoundingBox → Reading → Outcome Reading
bitmap_begun None reading = Fault Misplaced
bitmap_begun (Some cell) reading = Next (record reading { place = place.Bitmap cell cell.h; draft = record reading.draft { bits = [] } })

-- in a glyph, before its bitmap
abbrev pub glyph_line : Keyword → List ℕ → Reading → Outcome Reading
glyph_line keyword.StartFont rest reading = Next reading
glyph_line keyword.EndFont rest reading = Fault Misplaced
glyph_line keyword.StartChar rest reading = Fault Misplaced
glyph_line (keyword.Glyph in_glyph.Bitmap) rest reading = bitmap_begun reading.draft.bounding_box reading
glyph_line (keyword.Glyph keyword) rest reading = outcome_map (λ draft. record reading { draft = draft }) (draft_line keyword rest reading.draft)
glyph_line (keyword.Header keyword) rest reading = outcome_map (λ header. record reading { header = header }) (header_step keyword rest reading.header)
glyph_line keyword.Unknown rest reading = Next reading

-- a row of a bitmap
abbrev pub with_row : BoundingBox → ℕ → Result (List ℕ) FromHexError → Reading → Outcome Reading
with_row cell left row reading = outcome_map (λ bits. record reading { place = place.Bitmap cell left; draft = record reading.draft { bits = bits } }) (row_pushed row reading.draft.bits)

abbrev pub row_line : BoundingBox → ℕ → List ℕ → Reading → Outcome Reading
row_line cell left digits reading = with_row cell left (decode_sized digits ((cell.w + 7) / 8)) reading

-- the line after the rows
abbrev pub after_rows : BoundingBox → Keyword → Reading → Outcome Reading
after_rows cell (keyword.Glyph in_glyph.EndChar) reading = Next (record { place = place.Font; header = reading.header; glyphs = reading.glyphs ++ made_glyph reading.draft cell ∷ []; draft = no_glyph })
after_rows cell _ reading = Fault BadRow

abbrev pub bitmap_line : BoundingBox → ℕ → List ℕ → Reading → Outcome Reading
bitmap_line cell left line reading = if left == 0 then after_rows cell (keyword_of (first_word line)) reading else row_line cell (left - 1) (trimmed line) reading

abbrev pub line_step_at : LinePlace → List ℕ → Reading → Outcome Reading
line_step_at place.Start line reading = first_line (keyword_of (first_word line)) reading
line_step_at place.Font line reading = font_step (keyword_of (first_word line)) (after_word line) reading
line_step_at place.Glyph line reading = glyph_line (keyword_of (first_word line)) (after_word line) reading
line_step_at (place.Bitmap cell left) line reading = bitmap_line cell left line reading

-- what a line says, after the lines before it
abbrev pub reading_after : List ℕ → Reading → Outcome Reading
reading_after line reading = line_step_at reading.place line reading

-- ---- the whole text

-- What the header and the glyphs make: the family name goes before the font's, and a missing ascent and descent are the box's.
abbrev pub font_made : Header → List FontGlyph → FontValue
font_made header glyphs = bitmap_font
    (unwrap_or header.family (unwrap_or header.title []))
    (from_zero (unwrap_or header.ascent (box_top header.bounding_box)))
    (from_zero (unwrap_or header.descent (box_depth header.bounding_box)))
    header.default_char
    glyphs

-- The result of a walk that stopped at line n.
abbrev pub Answered : ℕ → Stop → Reading → Result FontValue FontRefusal → Type 0
Answered n stop.End reading result = (result ≡ Ok (font_made reading.header reading.glyphs)) ⊎ (result ≡ Err refusal.OutOfMemory)
Answered n (stop.Fault cause) reading result = result ≡ Err (BadFont n cause)
Answered n stop.Full reading result = result ≡ Err (TooLarge max_glyphs)
Answered n stop.OutOfMemory reading result = result ≡ Err refusal.OutOfMemory
