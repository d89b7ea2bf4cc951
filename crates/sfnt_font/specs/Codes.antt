-- Public: the codes of a font's glyphs, in the order of its list of glyphs.
use Rattle.std.specs.Prelude.{ℕ, ◌+◌, ◌-◌, if◌then◌else◌, List, [], ◌∷◌, ◌++◌, map, slice_index_or, Option, Some, None, ℤ, pos, negsuc}
use Rattle.std.specs.List.{range_with_len}
use Rattle.std.specs.Ordering.{int_eq}
use Rattle.sfnt_font.specs.declared.font.SfntFont.{SfntFont}
use Rattle.sfnt_font.specs.declared.segments.Segment.{Segment}
use Rattle.sfnt_font.specs.Maps.{max_code}
use Rattle.sfnt_font.specs.Fonts.{glyph_number, symbol_count}

-- n codes from `first` on
abbrev pub codes_from : ℕ → ℕ → List ℤ
codes_from first n = map pos (range_with_len first n)

-- the codes of a segment
abbrev pub segment_codes : Segment → List ℤ
segment_codes segment = codes_from segment.first (segment.last + 1 - segment.first)

-- the codes of segments
abbrev pub codes_of : List Segment → List ℤ
codes_of [] = []
codes_of (segment ∷ segments) = segment_codes segment ++ codes_of segments

-- the code of the glyph of missing characters
abbrev pub missing_code : ℤ
missing_code = negsuc 1

-- The codes of a font's glyphs: those of its segments in ascending order, and at the end the code of missing
-- characters. A map of symbols has all codes below 256 before them, since these are looked up among the symbols too.
abbrev pub font_codes : SfntFont → List ℤ
font_codes font = codes_from 0 (symbol_count font) ++ (codes_of font.segments ++ missing_code ∷ [])

-- the most codes of a font
abbrev pub max_codes : ℕ
max_codes = 256 + (max_code + 1) + 1

-- the code at a place of the list; there is none behind it but that of missing characters
abbrev pub code_of_place : SfntFont → ℕ → ℤ
code_of_place font place = slice_index_or (font_codes font) place missing_code

-- the glyph of a code of the list; 0 is that of missing characters
abbrev pub glyph_of_code : SfntFont → ℤ → ℕ
glyph_of_code font (pos code) = glyph_number font code
glyph_of_code font (negsuc n) = 0

-- the place of the first of the codes that is this one, where the first of all has the place n
abbrev pub code_place_from : ℕ → ℤ → List ℤ → Option ℕ
code_place_from n code [] = None
code_place_from n code (c ∷ codes) = if int_eq c code then Some n else code_place_from (n + 1) code codes
