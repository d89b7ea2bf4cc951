-- Public: what holds of every file.
use Rattle.std.specs.Prelude.{◌≡◌, ℕ, ◌+◌, ◌*◌, ◌/◌, ◌<◌, ◌≤◌, Bool, ◌&&◌, not, ◌==◌, nat_lt, if◌then◌else◌, List, [], ◌∷◌, ◌++◌, length, Option, Some, None, option_map, is_some, unwrap_or, Result, Ok, Err, IfOk}
use Rattle.std.specs.Option.{option_or}
use Rattle.sfnt_font.specs.declared.cause.Tag.{Tag}
use Rattle.sfnt_font.specs.declared.cause.Tag.TheVariants.{Head, Maxp, Hhea, Hmtx, Loca, Glyf, Cmap}
use Rattle.sfnt_font.specs.declared.cause.SfntCause.TheVariants.{Compressed, Ends, BadPlace, PostScript, BadOutlines, NotSfnt, NoTable, ShortTable, BadNumber, NoMap, BadMap}
use Rattle.sfnt_font.specs.declared.cause.SfntRefusal.{SfntRefusal}
use Rattle.sfnt_font.specs.declared.cause.SfntRefusal.TheVariants.{BadFont, TooLarge, OutOfMemory}
use Rattle.sfnt_font.specs.declared.directory.Directory.{Directory}
use Rattle.sfnt_font.specs.declared.directory.Table.{Table}
use Rattle.sfnt_font.specs.declared.maps.CharacterMap.{CharacterMap}
use Rattle.sfnt_font.specs.declared.maps.Choice.{Choice}
use Rattle.sfnt_font.specs.declared.tables.Tables.{Tables}
use Rattle.font_bytes.specs.Bytes.{u16_at, u32_at}
use Rattle.sfnt_font.specs.Faces.{max_faces, bad_face, collection_kind, face_count, face_place, is_compressed, is_face_kind}
use Rattle.sfnt_font.specs.declared.tables.Outlines.{Outlines}
use Rattle.sfnt_font.specs.declared.tables.Outlines.TheVariants.{TrueTypeOutlines}
use Rattle.cff_font.specs.declared.cause.CffRefusal.{CffRefusal}
use Rattle.cff_font.specs.declared.read.CffFont.{CffFont}
use Rattle.cff_font.specs.Fonts.{cff_of}
use Rattle.sfnt_font.specs.Directory.{cff_name, directory_end, is_second_version, least_size, name_of, outlines_of, table_end, table_named, table_span}
use Rattle.sfnt_font.specs.Maps.{best_map, no_choice, no_rank, groups_of, ranges_of, segments_of}
use Rattle.sfnt_font.specs.Fonts.{sfnt_of}

-- What is read of a file: a value of which this holds, a fault at a byte that isn't past the end, or too many faces.
abbrev pub IsReadIn : {T : Type 0} → List ℕ → (T → Type 0) → Result T SfntRefusal → Type 0
IsReadIn bytes Holds (Ok x) = Holds x
IsReadIn bytes Holds (Err (BadFont byte cause)) = byte ≤ length bytes
IsReadIn bytes Holds (Err (TooLarge most)) = most ≡ max_faces
IsReadIn bytes Holds (Err OutOfMemory) = ⊥

-- Each face of each file is one of three: a font of these bytes, a fault at one byte, or one of too many faces.
abbrev pub OneFaceAnswer : Type 0
OneFaceAnswer = (bytes : List ℕ) (face : ℕ) → IfOk (face_count bytes) (λ n. face < n) → IsReadIn bytes (λ font. font.bytes ≡ bytes) (sfnt_of bytes face)

-- ---- the rules of the format, in their order

-- a rule that is broken where a test holds
abbrev pub broken_if : Bool → SfntRefusal → Option SfntRefusal
broken_if b refusal = if b then Some refusal else None

-- the first of the rules that is broken
abbrev pub first_broken : List (Option SfntRefusal) → Option SfntRefusal
first_broken [] = None
first_broken (rule ∷ rules) = option_or rule (first_broken rules)

-- the fault of a reading
abbrev pub reading_fault : {T : Type 0} → Result T SfntRefusal → Option SfntRefusal
reading_fault (Ok x) = None
reading_fault (Err refusal) = Some refusal

abbrev pub is_collection : List ℕ → Bool
is_collection bytes = u32_at bytes 0 == collection_kind

-- the rules of a file's faces
abbrev pub face_rules : List ℕ → List (Option SfntRefusal)
face_rules bytes =
    broken_if (is_compressed (u32_at bytes 0)) (BadFont 0 Compressed)
    ∷ broken_if (nat_lt (length bytes) 12) (BadFont (length bytes) Ends)
    ∷ broken_if (is_collection bytes && nat_lt max_faces (u32_at bytes 8)) (TooLarge max_faces)
    ∷ broken_if (is_collection bytes && (u32_at bytes 8 == 0)) (BadFont 8 BadPlace)
    ∷ broken_if (is_collection bytes && nat_lt (length bytes) (12 + 4 * u32_at bytes 8)) (BadFont (length bytes) Ends)
    ∷ option_map (λ at. BadFont at BadPlace) (if is_collection bytes then bad_face bytes 12 (u32_at bytes 8) else None)
    ∷ []

-- those of the face at a place, and of its directory
abbrev pub directory_rules : List ℕ → ℕ → List (Option SfntRefusal)
directory_rules bytes at =
    broken_if (not (is_face_kind (u32_at bytes at))) (BadFont at NotSfnt)
    ∷ broken_if (nat_lt (length bytes) ((at + 12) + 16 * u16_at bytes (at + 4))) (BadFont (length bytes) Ends)
    ∷ []

-- a table of a face; one without bytes where there is none
abbrev pub no_table : Table
no_table = record { place = 0; size = 0 }

abbrev pub face_table : List ℕ → Directory → Tag → Table
face_table bytes directory tag = unwrap_or (table_named bytes directory (name_of tag)) no_table

-- what the outlines of a face are drawn from; the tables of `glyf` where there is a fault
abbrev pub outlines_or_none : List ℕ → Directory → Result Outlines SfntRefusal → Outlines
outlines_or_none bytes directory (Ok outlines) = outlines
outlines_or_none bytes directory (Err refusal) = TrueTypeOutlines (face_table bytes directory Loca) (face_table bytes directory Glyf)

abbrev pub face_outlines : List ℕ → Directory → Outlines
face_outlines bytes directory = outlines_or_none bytes directory (outlines_of bytes directory)

abbrev pub face_tables : List ℕ → Directory → Tables
face_tables bytes directory = record {
  head = face_table bytes directory Head;
  maxp = face_table bytes directory Maxp;
  hhea = face_table bytes directory Hhea;
  hmtx = face_table bytes directory Hmtx;
  outlines = face_outlines bytes directory;
  cmap = face_table bytes directory Cmap;
}

-- the rules of a table that is needed
abbrev pub needed_rules : List ℕ → Directory → Tag → List (Option SfntRefusal)
needed_rules bytes directory tag =
    broken_if (not (is_some (table_named bytes directory (name_of tag)))) (BadFont (directory_end directory) (NoTable tag))
    ∷ broken_if (nat_lt (face_table bytes directory tag).size (least_size tag)) (BadFont (face_table bytes directory tag).place (ShortTable tag))
    ∷ []

-- the rules of a face's outlines
abbrev pub read_rule : Result CffFont CffRefusal → Option SfntRefusal
read_rule (Ok font) = None
read_rule (Err refusal) = Some (BadFont refusal.place (BadOutlines refusal.cause))

abbrev pub outline_rules : List ℕ → Directory → Option Table → Option Table → List (Option SfntRefusal)
outline_rules bytes directory None (Some cff) = read_rule (cff_of bytes (table_span cff)) ∷ []
outline_rules bytes directory glyf cff = needed_rules bytes directory Loca ++ needed_rules bytes directory Glyf

abbrev pub table_rules : List ℕ → Directory → List (Option SfntRefusal)
table_rules bytes directory =
    broken_if (is_second_version bytes directory) (BadFont (directory_end directory) PostScript)
    ∷ (needed_rules bytes directory Head ++ (needed_rules bytes directory Maxp ++ (needed_rules bytes directory Hhea ++ (needed_rules bytes directory Hmtx
    ++ (outline_rules bytes directory (table_named bytes directory (name_of Glyf)) (table_named bytes directory cff_name) ++ (needed_rules bytes directory Cmap ++ []))))))

-- those of the numbers
abbrev pub number_rules : List ℕ → Tables → List (Option SfntRefusal)
number_rules bytes tables =
    broken_if (u16_at bytes (tables.head.place + 18) == 0) (BadFont (tables.head.place + 18) BadNumber)
    ∷ broken_if (u16_at bytes (tables.maxp.place + 4) == 0) (BadFont (tables.maxp.place + 4) BadNumber)
    ∷ []

-- those of the map's choice
abbrev pub best_choice : List ℕ → Table → Choice
best_choice bytes cmap = best_map bytes cmap (cmap.place + 4) (u16_at bytes (cmap.place + 2)) no_choice

abbrev pub choice_rules : List ℕ → Table → List (Option SfntRefusal)
choice_rules bytes cmap =
    broken_if (nat_lt (table_end cmap) (cmap.place + 4 + 8 * u16_at bytes (cmap.place + 2))) (BadFont (cmap.place + 2) BadMap)
    ∷ broken_if ((best_choice bytes cmap).rank == no_rank) (BadFont cmap.place NoMap)
    ∷ []

-- those of the map that is chosen
abbrev pub groups_rules : List ℕ → Table → Choice → List (Option SfntRefusal)
groups_rules bytes cmap choice =
    broken_if (nat_lt (table_end cmap) (choice.place + 16)) (BadFont choice.place BadMap)
    ∷ broken_if (nat_lt (table_end cmap) (choice.place + 16 + 12 * u32_at bytes (choice.place + 12))) (BadFont (choice.place + 12) BadMap)
    ∷ []

abbrev pub ranges_rules : List ℕ → Table → Choice → List (Option SfntRefusal)
ranges_rules bytes cmap choice =
    broken_if (nat_lt (table_end cmap) (choice.place + 14)) (BadFont choice.place BadMap)
    ∷ broken_if (nat_lt (table_end cmap) (choice.place + 16 + 8 * (u16_at bytes (choice.place + 6) / 2))) (BadFont (choice.place + 6) BadMap)
    ∷ []

abbrev pub map_rules : List ℕ → Table → Choice → List (Option SfntRefusal)
map_rules bytes cmap choice =
    if u16_at bytes choice.place == 12 then groups_rules bytes cmap choice else ranges_rules bytes cmap choice

abbrev pub map_at : List ℕ → Table → Choice → CharacterMap
map_at bytes cmap choice = if u16_at bytes choice.place == 12 then groups_of bytes cmap choice else ranges_of bytes cmap choice

-- that of its segments: each stands behind those before
abbrev pub segment_rules : List ℕ → CharacterMap → List (Option SfntRefusal)
segment_rules bytes m = reading_fault (segments_of bytes m) ∷ []

-- those of a font whose tables are known
abbrev pub font_rules : List ℕ → Tables → List (Option SfntRefusal)
font_rules bytes tables =
    number_rules bytes tables
    ++ ((choice_rules bytes tables.cmap ++ map_rules bytes tables.cmap (best_choice bytes tables.cmap))
    ++ segment_rules bytes (map_at bytes tables.cmap (best_choice bytes tables.cmap)))

-- the directory of a face at a place
abbrev pub face_directory : List ℕ → ℕ → Directory
face_directory bytes at = record { first = at + 12; count = u16_at bytes (at + 4) }

-- the rules of a face of a file, in the order in which they are looked at
abbrev pub sfnt_rules : List ℕ → ℕ → List (Option SfntRefusal)
sfnt_rules bytes face =
    let directory = face_directory bytes (face_place bytes face) in
    face_rules bytes ++ (directory_rules bytes (face_place bytes face) ++ (table_rules bytes directory ++ font_rules bytes (face_tables bytes directory)))

-- The fault of a file is that of the first rule that it breaks; a file that breaks none has a font.
abbrev pub IsFirstBroken : Type 0
IsFirstBroken = (bytes : List ℕ) (face : ℕ) → reading_fault (sfnt_of bytes face) ≡ first_broken (sfnt_rules bytes face)
