-- Public: the names of a font (`name`).
use Rattle.std.specs.Prelude.{ℕ, zero, suc, ◌+◌, ◌-◌, ◌*◌, ◌/◌, Bool, ◌&&◌, ◌||◌, ◌==◌, nat_lt, nat_le, if◌then◌else◌, List, [], ◌∷◌, map, take, slice_index, Option, Some, None}
use Rattle.std.specs.List.{range_with_len}
use Rattle.std.specs.Char.Utf16.{utf16_lossy_chars}
use Rattle.std.specs.Str.{encode_utf8_all}
use Rattle.sfnt_font.specs.declared.directory.Directory.{Directory}
use Rattle.sfnt_font.specs.declared.directory.Table.{Table}
use Rattle.sfnt_font.specs.declared.names.FontNames.{FontNames}
use Rattle.font_bytes.specs.Bytes.{u8_at, u16_at}
use Rattle.sfnt_font.specs.Directory.{is_post_script, table_end, table_named, unless_short}

-- "name", and its least bytes
abbrev pub names_name : ℕ
names_name = 1851878757

abbrev pub least_names : ℕ
least_names = 6

-- ---- which records count

-- the numbers of a family's name and of a full name, as records have them
abbrev pub family_kind : ℕ
family_kind = 1

abbrev pub full_kind : ℕ
full_kind = 4

-- that of a PostScript name, which is the full name of a font with PostScript outlines
abbrev pub post_script_kind : ℕ
post_script_kind = 6

abbrev pub whole_kind : Bool → ℕ
whole_kind is_post_script = if is_post_script then post_script_kind else full_kind

-- the rank of a name's platform and encoding: Windows; Unicode, or Mac Roman; none
abbrev pub name_rank : ℕ → ℕ → ℕ
name_rank platform encoding =
    if platform == 3 then 0 else if (platform == 0) || ((platform == 1) && (encoding == 0)) then 1 else 2

-- where the text of a record begins
abbrev pub text_place : List ℕ → Table → ℕ → ℕ
text_place bytes names at = names.place + u16_at bytes (names.place + 4) + u16_at bytes (at + 10)

-- whether a record and its text lie in the table
abbrev pub is_whole_name : List ℕ → Table → ℕ → Bool
is_whole_name bytes names at =
    nat_le (at + 12) (table_end names) && nat_le (text_place bytes names at + u16_at bytes (at + 8)) (table_end names)

-- whether a record is a name of this kind and of this rank
abbrev pub is_name : List ℕ → Table → ℕ → ℕ → ℕ → Bool
is_name bytes names kind rank at =
    (u16_at bytes (at + 6) == kind) && ((name_rank (u16_at bytes at) (u16_at bytes (at + 2)) == rank) && is_whole_name bytes names at)

-- those of n records from `at` on that are, in their order
abbrev pub records_from : List ℕ → Table → ℕ → ℕ → ℕ → ℕ → List ℕ
records_from bytes names kind rank at zero = []
records_from bytes names kind rank at (suc n) =
    if is_name bytes names kind rank at then at ∷ records_from bytes names kind rank (at + 12) n else records_from bytes names kind rank (at + 12) n

-- all records that are
abbrev pub records_of : List ℕ → Table → ℕ → ℕ → List ℕ
records_of bytes names kind rank = records_from bytes names kind rank (names.place + 6) (u16_at bytes (names.place + 2))

-- ---- the text of a record

-- the characters of the bytes from 128 up in Mac Roman
unfoldable pub mac_roman : List ℕ
mac_roman =
    196 ∷ 197 ∷ 199 ∷ 201 ∷ 209 ∷ 214 ∷ 220 ∷ 225 ∷ 224 ∷ 226 ∷
    228 ∷ 227 ∷ 229 ∷ 231 ∷ 233 ∷ 232 ∷ 234 ∷ 235 ∷ 237 ∷ 236 ∷
    238 ∷ 239 ∷ 241 ∷ 243 ∷ 242 ∷ 244 ∷ 246 ∷ 245 ∷ 250 ∷ 249 ∷
    251 ∷ 252 ∷ 8224 ∷ 176 ∷ 162 ∷ 163 ∷ 167 ∷ 8226 ∷ 182 ∷ 223 ∷
    174 ∷ 169 ∷ 8482 ∷ 180 ∷ 168 ∷ 8800 ∷ 198 ∷ 216 ∷ 8734 ∷ 177 ∷
    8804 ∷ 8805 ∷ 165 ∷ 181 ∷ 8706 ∷ 8721 ∷ 8719 ∷ 960 ∷ 8747 ∷ 170 ∷
    186 ∷ 937 ∷ 230 ∷ 248 ∷ 191 ∷ 161 ∷ 172 ∷ 8730 ∷ 402 ∷ 8776 ∷
    8710 ∷ 171 ∷ 187 ∷ 8230 ∷ 160 ∷ 192 ∷ 195 ∷ 213 ∷ 338 ∷ 339 ∷
    8211 ∷ 8212 ∷ 8220 ∷ 8221 ∷ 8216 ∷ 8217 ∷ 247 ∷ 9674 ∷ 255 ∷ 376 ∷
    8260 ∷ 8364 ∷ 8249 ∷ 8250 ∷ 64257 ∷ 64258 ∷ 8225 ∷ 183 ∷ 8218 ∷ 8222 ∷
    8240 ∷ 194 ∷ 202 ∷ 193 ∷ 203 ∷ 200 ∷ 205 ∷ 206 ∷ 207 ∷ 204 ∷
    211 ∷ 212 ∷ 63743 ∷ 210 ∷ 218 ∷ 219 ∷ 217 ∷ 305 ∷ 710 ∷ 732 ∷
    175 ∷ 728 ∷ 729 ∷ 730 ∷ 184 ∷ 733 ∷ 731 ∷ 711 ∷ []

-- the character of a byte in Mac Roman
abbrev pub mac_character : ℕ → ℕ
mac_character byte = if nat_lt byte 128 then byte else slice_index mac_roman (byte - 128)

-- the units of a text in Mac Roman, and of one in UTF-16
abbrev pub narrow_unit : List ℕ → ℕ → ℕ → ℕ
narrow_unit bytes at k = mac_character (u8_at bytes (at + k))

abbrev pub wide_unit : List ℕ → ℕ → ℕ → ℕ
wide_unit bytes at k = u16_at bytes (at + 2 * k)

abbrev pub narrow_units : List ℕ → ℕ → ℕ → List ℕ
narrow_units bytes at n = map (narrow_unit bytes at) (range_with_len 0 n)

abbrev pub wide_units : List ℕ → ℕ → ℕ → List ℕ
wide_units bytes at n = map (wide_unit bytes at) (range_with_len 0 n)

-- the units of a record's text; an odd last byte isn't one
abbrev pub name_units : List ℕ → Table → ℕ → List ℕ
name_units bytes names at =
    if u16_at bytes at == 1 then narrow_units bytes (text_place bytes names at) (u16_at bytes (at + 8))
    else wide_units bytes (text_place bytes names at) (u16_at bytes (at + 8) / 2)

-- what units spell, in UTF-8; half a pair is U+FFFD
abbrev pub spelled : List ℕ → List ℕ
spelled units = encode_utf8_all (utf16_lossy_chars units)

abbrev pub record_name : List ℕ → Table → ℕ → List ℕ
record_name bytes names at = spelled (name_units bytes names at)

-- ---- the names of a font

-- the most families of a font, and the most full names
abbrev pub max_names : ℕ
max_names = 64

-- the first names of this kind and rank, at most so many
abbrev pub ranked_names : List ℕ → Table → ℕ → ℕ → ℕ → List (List ℕ)
ranked_names bytes names kind rank most = map (record_name bytes names) (take most (records_of bytes names kind rank))

-- a list, or another one where it is empty
abbrev pub unless_empty : List (List ℕ) → List (List ℕ) → List (List ℕ)
unless_empty [] others = others
unless_empty (name ∷ names) others = name ∷ names

-- The families that a table gives: those of Windows, or else the first of the others.
abbrev pub table_families : List ℕ → Table → List (List ℕ)
table_families bytes names = unless_empty (ranked_names bytes names family_kind 0 max_names) (ranked_names bytes names family_kind 1 1)

-- The names that a table gives. The full names, or the PostScript ones, are those of Windows alone.
abbrev pub table_names : List ℕ → Bool → Table → FontNames
table_names bytes is_post_script names = record { families = table_families bytes names; full_names = ranked_names bytes names (whole_kind is_post_script) 0 max_names }

abbrev pub no_names : FontNames
no_names = record { families = []; full_names = [] }

abbrev pub names_or_none : List ℕ → Bool → Option Table → FontNames
names_or_none bytes is_post_script None = no_names
names_or_none bytes is_post_script (Some names) = table_names bytes is_post_script names

-- the names of a font, in UTF-8
abbrev pub font_names : List ℕ → Directory → FontNames
font_names bytes directory = names_or_none bytes (is_post_script bytes directory) (unless_short least_names (table_named bytes directory names_name))

-- the name that a font is told by: that of its first family; empty where it has none
abbrev pub first_name : List (List ℕ) → List ℕ
first_name [] = []
first_name (name ∷ names) = name
