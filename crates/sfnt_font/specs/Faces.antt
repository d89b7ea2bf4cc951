-- Public: which files are read, and where their faces are.
use Rattle.std.specs.Prelude.{ℕ, zero, suc, ◌+◌, ◌*◌, Bool, ◌||◌, ◌==◌, nat_lt, if◌then◌else◌, List, length, Option, Some, None, Result, Ok, Err}
use Rattle.sfnt_font.specs.declared.cause.SfntCause.TheVariants.{Compressed, Ends, BadPlace}
use Rattle.sfnt_font.specs.declared.cause.SfntRefusal.{SfntRefusal}
use Rattle.sfnt_font.specs.declared.cause.SfntRefusal.TheVariants.{BadFont, TooLarge}
use Rattle.font_bytes.specs.Bytes.{u32_at}

-- the first four bytes of a TrueType font: 00 01 00 00, or "true"
abbrev pub version_1 : ℕ
version_1 = 65536

abbrev pub true_kind : ℕ
true_kind = 1953658213

-- those of a font with PostScript outlines: "OTTO"
abbrev pub open_kind : ℕ
open_kind = 1330926671

-- those of a collection: "ttcf"
abbrev pub collection_kind : ℕ
collection_kind = 1953784678

-- those of a compressed font: "wOFF" and "wOF2"
abbrev pub woff_kind : ℕ
woff_kind = 2001684038

abbrev pub woff2_kind : ℕ
woff2_kind = 2001684018

-- the most faces of a file
abbrev pub max_faces : ℕ
max_faces = 64

abbrev pub is_compressed : ℕ → Bool
is_compressed kind = (kind == woff_kind) || (kind == woff2_kind)

-- whether a face begins so, with TrueType outlines or PostScript ones
abbrev pub is_face_kind : ℕ → Bool
is_face_kind kind = (kind == version_1) || ((kind == true_kind) || (kind == open_kind))

-- whether a file that begins so is read as a TrueType font, or else refused as one
abbrev pub is_sfnt_kind : ℕ → Bool
is_sfnt_kind kind = is_face_kind kind || (kind == collection_kind) || is_compressed kind

-- the first of n faces, whose places stand from `at` on, that doesn't have 12 bytes in the file
abbrev pub bad_face : List ℕ → ℕ → ℕ → Option ℕ
bad_face bytes at zero = None
bad_face bytes at (suc n) = if nat_lt (length bytes) (u32_at bytes at + 12) then Some at else bad_face bytes (at + 4) n

-- n faces, unless one has a bad place
abbrev pub unless_misplaced : ℕ → Option ℕ → Result ℕ SfntRefusal
unless_misplaced n None = Ok n
unless_misplaced n (Some at) = Err (BadFont at BadPlace)

-- the faces of a collection that says it has n
abbrev pub collection_count : List ℕ → ℕ → Result ℕ SfntRefusal
collection_count bytes n =
    if nat_lt max_faces n then Err (TooLarge max_faces)
    else if n == 0 then Err (BadFont 8 BadPlace)
    else if nat_lt (length bytes) (12 + 4 * n) then Err (BadFont (length bytes) Ends)
    else unless_misplaced n (bad_face bytes 12 n)

-- how many faces a file has
abbrev pub face_count : List ℕ → Result ℕ SfntRefusal
face_count bytes =
    if is_compressed (u32_at bytes 0) then Err (BadFont 0 Compressed)
    else if nat_lt (length bytes) 12 then Err (BadFont (length bytes) Ends)
    else if u32_at bytes 0 == collection_kind then collection_count bytes (u32_at bytes 8)
    else Ok 1

-- where a face begins
abbrev pub face_place : List ℕ → ℕ → ℕ
face_place bytes face = if u32_at bytes 0 == collection_kind then u32_at bytes (12 + 4 * face) else 0
