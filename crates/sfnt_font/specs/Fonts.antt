-- Public: fonts, and what is found in them.
use Rattle.std.specs.Prelude.{ℕ, zero, suc, ◌+◌, ◌-◌, ◌*◌, ◌%◌, Bool, ◌&&◌, ◌==◌, nat_lt, nat_le, if◌then◌else◌, List, [], ◌∷◌, slice_index_or, Option, Some, None, option_map, Result, Ok}
use Rattle.sfnt_font.specs.declared.cause.SfntRefusal.{SfntRefusal}
use Rattle.sfnt_font.specs.declared.directory.Directory.{Directory}
use Rattle.sfnt_font.specs.declared.font.SfntFont.{SfntFont}
use Rattle.sfnt_font.specs.declared.maps.MapFormat.{MapFormat}
use Rattle.sfnt_font.specs.declared.maps.MapFormat.TheVariants.{Ranges, Groups}
use Rattle.sfnt_font.specs.declared.maps.CharacterMap.{CharacterMap}
use Rattle.sfnt_font.specs.declared.segments.Segment.{Segment}
use Rattle.sfnt_font.specs.Answers.{then_read}
use Rattle.font_bytes.specs.Bytes.{u16_at, u32_at}
use Rattle.sfnt_font.specs.Faces.{face_count, face_place}
use Rattle.sfnt_font.specs.Directory.{directory_at, tables_of}
use Rattle.sfnt_font.specs.Numbers.{sfnt_numbers}
use Rattle.sfnt_font.specs.Names.{font_names}
use Rattle.sfnt_font.specs.Maps.{map_of, segments_of, group_place, first_code_place, shift_place, offset_place}

-- the font of the face whose directory this is
abbrev pub font_of : List ℕ → Directory → Result SfntFont SfntRefusal
font_of bytes directory =
    then_read (tables_of bytes directory) (λ tables.
    then_read (sfnt_numbers bytes directory tables) (λ numbers.
    then_read (map_of bytes tables.cmap) (λ character_map.
    then_read (segments_of bytes character_map) (λ segments.
    Ok (record { bytes = bytes; tables = tables; numbers = numbers; character_map = character_map; segments = segments; names = font_names bytes directory })))))

-- the map of the face whose directory this is, which is found before any memory is taken
abbrev pub directory_map : List ℕ → Directory → Result CharacterMap SfntRefusal
directory_map bytes directory =
    then_read (tables_of bytes directory) (λ tables.
    then_read (sfnt_numbers bytes directory tables) (λ numbers. map_of bytes tables.cmap))

-- that of a face of a file
abbrev pub face_map : List ℕ → ℕ → Result CharacterMap SfntRefusal
face_map bytes face =
    then_read (face_count bytes) (λ faces. then_read (directory_at bytes (face_place bytes face)) (directory_map bytes))

-- the font of a face of a file, or the first fault
abbrev pub sfnt_of : List ℕ → ℕ → Result SfntFont SfntRefusal
sfnt_of bytes face =
    then_read (face_count bytes) (λ faces. then_read (directory_at bytes (face_place bytes face)) (font_of bytes))

-- the fonts of n faces of a file from `face` on, or the first fault
abbrev pub sfnts_from : List ℕ → ℕ → ℕ → Result (List SfntFont) SfntRefusal
sfnts_from bytes face zero = Ok []
sfnts_from bytes face (suc n) = then_read (sfnt_of bytes face) (λ font. then_read (sfnts_from bytes (face + 1) n) (λ fonts. Ok (font ∷ fonts)))

-- the fonts of all faces of a file, in their order, or the first fault
abbrev pub sfnts_of : List ℕ → Result (List SfntFont) SfntRefusal
sfnts_of bytes = then_read (face_count bytes) (sfnts_from bytes 0)

-- the number of the first of the segments that has the code, where the first of the segments has the number k
abbrev pub segment_from : ℕ → ℕ → List Segment → Option ℕ
segment_from k code [] = None
segment_from k code (segment ∷ segments) =
    if nat_le segment.first code && nat_le code segment.last then Some k else segment_from (k + 1) code segments

-- the number of the segment that has the code
abbrev pub segment_of : List Segment → ℕ → Option ℕ
segment_of segments code = segment_from 0 code segments

-- ---- the glyph of a code

-- the glyph that a list of glyphs has at a place, which the segment's shift moves; 0 is none
abbrev pub shifted_glyph : ℕ → ℕ → ℕ
shifted_glyph shift glyph = if glyph == 0 then 0 else (glyph + shift) % 65536

abbrev pub listed_glyph : List ℕ → CharacterMap → ℕ → ℕ → ℕ
listed_glyph bytes m shift at = if nat_lt m.end (at + 2) then 0 else shifted_glyph shift (u16_at bytes at)

-- the glyph of a code of segment k whose list has this offset
abbrev pub glyph_by_offset : List ℕ → CharacterMap → ℕ → ℕ → ℕ → ℕ
glyph_by_offset bytes m k code offset =
    if offset == 0 then (code + u16_at bytes (shift_place m k)) % 65536
    else if offset == 65535 then 0
    else listed_glyph bytes m (u16_at bytes (shift_place m k)) (offset_place m k + offset + 2 * (code - u16_at bytes (first_code_place m k)))

abbrev pub glyph_in_group : List ℕ → CharacterMap → ℕ → ℕ → ℕ
glyph_in_group bytes m k code = u32_at bytes (group_place m k + 8) + (code - u32_at bytes (group_place m k))

-- the glyph of a code of segment k, or of group k
abbrev pub segment_glyph : MapFormat → List ℕ → CharacterMap → ℕ → ℕ → ℕ
segment_glyph Ranges bytes m k code = glyph_by_offset bytes m k code (u16_at bytes (offset_place m k))
segment_glyph Groups bytes m k code = glyph_in_group bytes m k code

-- a glyph of the font, or 0
abbrev pub held_glyph : ℕ → ℕ → ℕ
held_glyph count glyph = if nat_lt glyph count then glyph else 0

abbrev pub glyph_or_none : SfntFont → ℕ → Option ℕ → ℕ
glyph_or_none font code None = 0
glyph_or_none font code (Some k) = held_glyph font.numbers.glyphs (segment_glyph font.character_map.format font.bytes font.character_map k code)

-- the glyph that the map gives a code; 0 where it gives none
abbrev pub mapped_glyph : SfntFont → ℕ → ℕ
mapped_glyph font code = glyph_or_none font code (segment_of font.segments code)

-- whether a code is looked up among the symbols too
abbrev pub is_symbol_code : SfntFont → ℕ → Bool
is_symbol_code font code = font.character_map.is_symbol && nat_lt code 256

-- the glyph of a code; 0 is that of missing characters
abbrev pub glyph_number : SfntFont → ℕ → ℕ
glyph_number font code =
    if mapped_glyph font code == 0 && is_symbol_code font code then mapped_glyph font (61440 + code) else mapped_glyph font code

-- ---- the list of a font's glyphs

-- how many codes stand before those of the segments: a map of symbols has all codes below 256 too
abbrev pub symbol_count : SfntFont → ℕ
symbol_count font = if font.character_map.is_symbol then 256 else 0

-- the place of a code in a segment among the codes of all
abbrev pub place_in : Segment → ℕ → ℕ
place_in segment code = segment.before + (code - segment.first)

abbrev pub no_segment : Segment
no_segment = record { first = 0; last = 0; before = 0 }

-- the place of a code's glyph among the glyphs of a font
abbrev pub place_of_code : SfntFont → ℕ → Option ℕ
place_of_code font code =
    if is_symbol_code font code then Some code
    else option_map (λ k. symbol_count font + place_in (slice_index_or font.segments k no_segment) code) (segment_of font.segments code)
