-- No file is refused for want of memory.
use Rattle.std.proofs.Common.{◌≡◌, ℕ, zero, suc, ◌+◌, Bool, true, false, cond, List, Option, Some, None, Result, Ok, Err, refl}
use Rattle.sfnt_font.specs.declared.cause.SfntCause.{SfntCause}
use Rattle.sfnt_font.specs.declared.cause.SfntCause.TheVariants.{BadPlace}
use Rattle.sfnt_font.specs.declared.cause.SfntRefusal.{SfntRefusal}
use Rattle.sfnt_font.specs.declared.cause.SfntRefusal.TheVariants.{BadFont, TooLarge, OutOfMemory}
use Rattle.sfnt_font.specs.declared.cause.Tag.{Tag}
use Rattle.sfnt_font.specs.declared.cause.Tag.TheVariants.{Head, Maxp, Hhea, Hmtx, Loca, Glyf, Cmap}
use Rattle.sfnt_font.specs.declared.directory.Directory.{Directory}
use Rattle.sfnt_font.specs.declared.directory.Table.{Table}
use Rattle.sfnt_font.specs.declared.maps.Choice.{Choice}
use Rattle.sfnt_font.specs.declared.maps.CharacterMap.{CharacterMap}
use Rattle.sfnt_font.specs.declared.maps.MapFormat.{MapFormat}
use Rattle.sfnt_font.specs.declared.maps.MapFormat.TheVariants.{Ranges, Groups}
use Rattle.sfnt_font.specs.declared.tables.Tables.{Tables}
use Rattle.cff_font.specs.declared.cause.CffRefusal.{CffRefusal}
use Rattle.cff_font.specs.declared.read.CffFont.{CffFont}
use Rattle.cff_font.specs.Fonts.{cff_of}
use Rattle.sfnt_font.specs.Answers.{then_read}
use Rattle.sfnt_font.specs.Faces.{collection_count, face_count, face_place, unless_misplaced}
use Rattle.sfnt_font.specs.Directory.{directory_at, cff_name, is_second_version, name_of, needed_or, needed_table, directory_end, outlines_by, outlines_of, outlines_read, table_named, table_span, tables_of, true_type_outlines}
use Rattle.sfnt_font.specs.Numbers.{sfnt_numbers}
use Rattle.sfnt_font.specs.Maps.{chosen_map, codes_to, map_of, segment_at, segment_in, segments_from, segments_of, whole_map}
use Rattle.sfnt_font.specs.Fonts.{directory_map, face_map, font_of, sfnt_of}

-- A reading that memory doesn't end.
record IsRead {T : Type 0} (reading : Result T SfntRefusal) : Type 0 where
  never : reading ≡ Err OutOfMemory → ⊥

got : {T : Type 0} (x : T) → IsRead (Ok x)
got x = record { never = λ e. absurd cc }

bad : {T : Type 0} (at : ℕ) (cause : SfntCause) → IsRead {T = T} (Err (BadFont at cause))
bad at cause = record { never = λ e. absurd cc }

many : {T : Type 0} (most : ℕ) → IsRead {T = T} (Err (TooLarge most))
many most = record { never = λ e. absurd cc }

either : {T : Type 0} (b : Bool) (one other : Result T SfntRefusal) → IsRead one → IsRead other → IsRead (cond b one other)
either true one other h k = h
either false one other h k = k

behind : {T U : Type 0} (first : Result T SfntRefusal) (next : T → Result U SfntRefusal) → IsRead first → ((x : T) → IsRead (next x)) → IsRead (then_read first next)
behind (Ok x) next h k = k x
behind (Err (BadFont at cause)) next h k = bad at cause
behind (Err (TooLarge most)) next h k = many most
behind (Err OutOfMemory) next h k = absurd (h.never refl)

-- ---- faces

misplaced_read : (n : ℕ) (at : Option ℕ) → IsRead (unless_misplaced n at)
misplaced_read n None = got n
misplaced_read n (Some at) = bad at BadPlace

collection_read : (bytes : List ℕ) (n : ℕ) → IsRead (collection_count bytes n)
collection_read bytes n = search (either, bad, many, misplaced_read) depth 12

faces_read : (bytes : List ℕ) → IsRead (face_count bytes)
faces_read bytes = search (either, bad, got, collection_read) depth 12

-- ---- tables

directory_read : (bytes : List ℕ) (at : ℕ) → IsRead (directory_at bytes at)
directory_read bytes at = search (either, bad, got) depth 12

needed_read : (end : ℕ) (tag : Tag) (found : Option Table) → IsRead (needed_or end tag found)
needed_read end tag None = bad _ _
needed_read end tag (Some table) = search (either, bad, got) depth 12

table_read : (bytes : List ℕ) (directory : Directory) (tag : Tag) → IsRead (needed_table bytes directory tag)
table_read bytes directory tag = needed_read (directory_end directory) tag (table_named bytes directory (name_of tag))

cff_read : (r : Result CffFont CffRefusal) → IsRead (outlines_read r)
cff_read (Ok font) = got _
cff_read (Err refusal) = bad _ _

true_type_read : (bytes : List ℕ) (directory : Directory) → IsRead (true_type_outlines bytes directory)
true_type_read bytes directory = behind _ _ (table_read bytes directory Loca) (λ loca. behind _ _ (table_read bytes directory Glyf) (λ glyf. got _))

outlines_by_read : (bytes : List ℕ) (directory : Directory) (glyf cff : Option Table) → IsRead (outlines_by bytes directory glyf cff)
outlines_by_read bytes directory None (Some cff) = cff_read (cff_of bytes (table_span cff))
outlines_by_read bytes directory None None = true_type_read bytes directory
outlines_by_read bytes directory (Some glyf) None = true_type_read bytes directory
outlines_by_read bytes directory (Some glyf) (Some cff) = true_type_read bytes directory

outlines_of_read : (bytes : List ℕ) (directory : Directory) → IsRead (outlines_of bytes directory)
outlines_of_read bytes directory = outlines_by_read bytes directory (table_named bytes directory (name_of Glyf)) (table_named bytes directory cff_name)

tables_read : (bytes : List ℕ) (directory : Directory) → IsRead (tables_of bytes directory)
tables_read bytes directory =
    either (is_second_version bytes directory) _ _ (bad _ _)
    (behind _ _ (table_read bytes directory Head) (λ head.
    behind _ _ (table_read bytes directory Maxp) (λ maxp.
    behind _ _ (table_read bytes directory Hhea) (λ hhea.
    behind _ _ (table_read bytes directory Hmtx) (λ hmtx.
    behind _ _ (outlines_of_read bytes directory) (λ outlines.
    behind _ _ (table_read bytes directory Cmap) (λ cmap. got _)))))))

numbers_read : (bytes : List ℕ) (directory : Directory) (tables : Tables) → IsRead (sfnt_numbers bytes directory tables)
numbers_read bytes directory tables = search (either, bad, got) depth 12

-- ---- maps

choice_read : (bytes : List ℕ) (cmap : Table) → IsRead (chosen_map bytes cmap)
choice_read bytes cmap = search (either, bad, got) depth 12

whole_read : (bytes : List ℕ) (cmap : Table) (choice : Choice) → IsRead (whole_map bytes cmap choice)
whole_read bytes cmap choice = search (either, bad, got) depth 12

map_read : (bytes : List ℕ) (cmap : Table) → IsRead (map_of bytes cmap)
map_read bytes cmap = behind (chosen_map bytes cmap) (whole_map bytes cmap) (choice_read bytes cmap) (whole_read bytes cmap)

segment_read : (format : MapFormat) (bytes : List ℕ) (m : CharacterMap) (k low before : ℕ) → IsRead (segment_in format bytes m k low before)
segment_read Groups bytes m k low before = search (either, bad, got) depth 12
segment_read Ranges bytes m k low before = search (either, bad, got) depth 12

segments_read : (bytes : List ℕ) (m : CharacterMap) (k n low before : ℕ) → IsRead (segments_from bytes m k n low before)
segments_read bytes m k zero low before = got _
segments_read bytes m k (suc n) low before =
    behind (segment_at bytes m k low before) _ (segment_read m.format bytes m k low before) (λ segment.
    behind (segments_from bytes m (k + 1) n (segment.last + 1) (codes_to segment)) _ (segments_read bytes m (k + 1) n (segment.last + 1) (codes_to segment)) (λ rest. got _))

-- ---- fonts

font_read : (bytes : List ℕ) (directory : Directory) → IsRead (font_of bytes directory)
font_read bytes directory =
    behind (tables_of bytes directory) _ (tables_read bytes directory) (λ tables.
    behind (sfnt_numbers bytes directory tables) _ (numbers_read bytes directory tables) (λ numbers.
    behind (map_of bytes tables.cmap) _ (map_read bytes tables.cmap) (λ character_map.
    behind (segments_of bytes character_map) _ (segments_read bytes character_map 0 character_map.count 0 0) (λ segments. got _))))

sfnt_read : (bytes : List ℕ) (face : ℕ) → IsRead (sfnt_of bytes face)
sfnt_read bytes face =
    behind (face_count bytes) _ (faces_read bytes) (λ faces.
    behind (directory_at bytes (face_place bytes face)) (font_of bytes) (directory_read bytes (face_place bytes face)) (font_read bytes))

pub never_wants_memory : (bytes : List ℕ) (face : ℕ) → sfnt_of bytes face ≡ Err OutOfMemory → ⊥
never_wants_memory bytes face = (sfnt_read bytes face).never

face_map_read : (bytes : List ℕ) (face : ℕ) → IsRead (face_map bytes face)
face_map_read bytes face =
    behind (face_count bytes) _ (faces_read bytes) (λ faces.
    behind (directory_at bytes (face_place bytes face)) (directory_map bytes) (directory_read bytes (face_place bytes face)) (λ directory.
    behind (tables_of bytes directory) _ (tables_read bytes directory) (λ tables.
    behind (sfnt_numbers bytes directory tables) _ (numbers_read bytes directory tables) (λ numbers. map_read bytes tables.cmap))))

pub map_wants_no_memory : (bytes : List ℕ) (face : ℕ) → face_map bytes face ≡ Err OutOfMemory → ⊥
map_wants_no_memory bytes face = (face_map_read bytes face).never
