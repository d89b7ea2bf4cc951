-- What each step of the reading gives: a value that lies in the file, or a fault at a byte that isn't past its end.
use Rattle.std.proofs.Common.{◌≡◌, ℕ, zero, suc, ◌+◌, ◌*◌, ◌/◌, ◌<◌, ◌≤◌, List, length, Bool, true, false, cond, ◌&&◌, ◌||◌, not, Option, Some, None, Result, Ok, Err, ◌⊎◌, inl, inr, refl, ap, sym, arith}
use Rattle.std.specs.Prelude.{nat_lt, nat_le, ◌==◌, IfOk, IfSome}
use Rattle.std.proofs.lemmas.Bool.{and_parts, ltb-false, leb-true}
use Rattle.std.proofs.lemmas.Option.{none-some}
use Rattle.std.proofs.lemmas.Bool.Decides.{nat_tests}
use Rattle.sfnt_font.specs.declared.cause.Tag.{Tag}
use Rattle.sfnt_font.specs.declared.cause.Tag.TheVariants.{Head, Maxp, Hhea, Hmtx, Loca, Glyf, Cmap}
use Rattle.sfnt_font.specs.declared.cause.SfntRefusal.{SfntRefusal}
use Rattle.sfnt_font.specs.declared.cause.SfntRefusal.TheVariants.{BadFont, TooLarge, OutOfMemory}
use Rattle.sfnt_font.specs.declared.directory.Directory.{Directory}
use Rattle.sfnt_font.specs.declared.directory.Table.{Table}
use Rattle.sfnt_font.specs.declared.font.SfntFont.{SfntFont}
use Rattle.sfnt_font.specs.declared.maps.CharacterMap.{CharacterMap}
use Rattle.sfnt_font.specs.declared.maps.Choice.{Choice}
use Rattle.sfnt_font.specs.declared.maps.MapFormat.{MapFormat}
use Rattle.sfnt_font.specs.declared.maps.MapFormat.TheVariants.{Ranges, Groups}
use Rattle.sfnt_font.specs.declared.tables.Tables.{Tables}
use Rattle.cff_font.specs.declared.cause.CffRefusal.{CffRefusal}
use Rattle.cff_font.specs.declared.read.CffFont.{CffFont}
use Rattle.cff_font.specs.Fonts.{cff_of}
use Rattle.cff_font.specs.Laws.{IsFaultIn}
use Rattle.cff_font.proofs.TableFaults.{faults-in}
use Rattle.sfnt_font.specs.Answers.{then_read}
use Rattle.font_bytes.specs.Bytes.{u16_at, u32_at}
use Rattle.sfnt_font.specs.Faces.{bad_face, collection_kind, collection_count, face_count, face_place, is_compressed, is_face_kind, max_faces, unless_misplaced}
use Rattle.sfnt_font.specs.Directory.{directory_at, directory_end, table_at, table_end, is_table, table_from, table_named, name_of, least_size, needed_or, needed_table, cff_name, is_second_version, outlines_by, outlines_of, outlines_read, post_script_outlines, table_span, true_type_outlines, tables_of, IsTableIn}
use Rattle.sfnt_font.specs.Numbers.{sfnt_numbers}
use Rattle.sfnt_font.specs.Maps.{choice_at, is_read_map, no_choice, no_rank, better, best_map, map_rank, unless_none, chosen_map, groups_map, ranges_map, whole_map, map_of, segment_at, segment_in, segments_from, segments_of, codes_to, group_place, last_code_place, first_code_place, max_code}
use Rattle.sfnt_font.specs.Fonts.{font_of}
use Rattle.sfnt_font.specs.Laws.{IsReadIn, OneFaceAnswer}

-- ---- one step behind another

then_in : {T U : Type 0} (bytes : List ℕ) (P : T → Type 0) (Q : U → Type 0) (r : Result T SfntRefusal) (next : T → Result U SfntRefusal) →
    IsReadIn bytes P r → ((x : T) → P x → IsReadIn bytes Q (next x)) → IsReadIn bytes Q (then_read r next)
then_in bytes P Q (Ok x) next h step = step x h
then_in bytes P Q (Err (BadFont byte cause)) next h step = h
then_in bytes P Q (Err (TooLarge most)) next h step = h
then_in bytes P Q (Err OutOfMemory) next h step = h

test_in : {T : Type 0} (bytes : List ℕ) (P : T → Type 0) (b : Bool) (first second : Result T SfntRefusal) →
    (b ≡ true → IsReadIn bytes P first) → (b ≡ false → IsReadIn bytes P second) → IsReadIn bytes P (cond b first second)
test_in bytes P true first second h k = h refl
test_in bytes P false first second h k = k refl

abbrev Any : {T : Type 0} → T → Type 0
Any x = Unit {0}

-- ---- faces

-- the first face is placed, and so are those behind it
abbrev first_fails : List ℕ → ℕ → Bool
first_fails bytes at = nat_lt (length bytes) (u32_at bytes at + 12)

placed-step : (bytes : List ℕ) (at n face : ℕ) (b : Bool) → first_fails bytes at ≡ b → cond b (Some at) (bad_face bytes (at + 4) n) ≡ None → face < suc n →
    (bad_face bytes (at + 4) n ≡ None → (face : ℕ) → face < n → u32_at bytes ((at + 4) + 4 * face) + 12 ≤ length bytes) → u32_at bytes (at + 4 * face) + 12 ≤ length bytes
placed-step bytes at n face true e h less later = absurd (none-some at (sym h))
placed-step bytes at n zero false e h less later =
    let here : u32_at bytes at + 12 ≤ length bytes = ltb-false (length bytes) (u32_at bytes at + 12) e in
    let same : at + 4 * 0 ≡ at = omega arith in
    rw same here
placed-step bytes at n (suc face) false e h less later =
    let next : u32_at bytes ((at + 4) + 4 * face) + 12 ≤ length bytes = later h face (omega arith) in
    let same : at + 4 * suc face ≡ (at + 4) + 4 * face = omega arith in
    rw same next

placed_faces : (bytes : List ℕ) (at n : ℕ) → bad_face bytes at n ≡ None → (face : ℕ) → face < n → u32_at bytes (at + 4 * face) + 12 ≤ length bytes
placed_faces bytes at zero h face less = absurd (omega arith)
placed_faces bytes at (suc n) h face less = placed-step bytes at n face (first_fails bytes at) refl h less (placed_faces bytes (at + 4) n)

bad_face-below : (bytes : List ℕ) (at n : ℕ) → IfSome (bad_face bytes at n) (λ place. place < at + 4 * n)
bad_face-below bytes at zero = tt
bad_face-below bytes at (suc n) = either (nat_lt (length bytes) (u32_at bytes at + 12)) (bad_face bytes (at + 4) n) (bad_face-below bytes (at + 4) n)
  where
    either : (b : Bool) (o : Option ℕ) → IfSome o (λ place. place < (at + 4) + 4 * n) → IfSome (cond b (Some at) o) (λ place. place < at + 4 * suc n)
    either true o h = omega arith
    either false None h = tt
    either false (Some place) h = omega arith

-- each face has 12 bytes in the file
abbrev ArePlaced : List ℕ → ℕ → Type 0
ArePlaced bytes n = (face : ℕ) → face < n → face_place bytes face + 12 ≤ length bytes

first_below : (bytes : List ℕ) (n : ℕ) (o : Option ℕ) → bad_face bytes 12 n ≡ o → IfSome o (λ place. place < 12 + 4 * n)
first_below bytes n o e = rw (← e) (bad_face-below bytes 12 n)

misplaced_in : (bytes : List ℕ) (n : ℕ) (o : Option ℕ) → (u32_at bytes 0 == collection_kind) ≡ true → bad_face bytes 12 n ≡ o → 12 + 4 * n ≤ length bytes → IsReadIn bytes (ArePlaced bytes) (unless_misplaced n o)
misplaced_in bytes n None kind e room = λ face less.
    let here : face_place bytes face ≡ u32_at bytes (12 + 4 * face) = ap (λ b. cond b (u32_at bytes (12 + 4 * face)) 0) kind in
    rw here (placed_faces bytes 12 n e face less)
misplaced_in bytes n (Some at) kind e room = let below : at < 12 + 4 * n = first_below bytes n (Some at) e in omega (arith, below, room)

collection_in : (bytes : List ℕ) (n : ℕ) → (u32_at bytes 0 == collection_kind) ≡ true → 12 ≤ length bytes → IsReadIn bytes (ArePlaced bytes) (collection_count bytes n)
collection_in bytes n kind long =
    test_in bytes (ArePlaced bytes) (nat_lt max_faces n) _ _ (λ _. refl) (λ _.
    test_in bytes (ArePlaced bytes) (n == 0) _ _ (λ _. omega (arith, long)) (λ _.
    test_in bytes (ArePlaced bytes) (nat_lt (length bytes) (12 + 4 * n)) _ _ (λ _. omega arith) (λ fits.
    misplaced_in bytes n (bad_face bytes 12 n) kind refl (ltb-false (length bytes) (12 + 4 * n) fits))))

faces_in : (bytes : List ℕ) → IsReadIn bytes (ArePlaced bytes) (face_count bytes)
faces_in bytes =
    test_in bytes (ArePlaced bytes) (is_compressed (u32_at bytes 0)) _ _ (λ _. omega arith) (λ _.
    test_in bytes (ArePlaced bytes) (nat_lt (length bytes) 12) _ _ (λ _. omega arith) (λ fits.
    let long : 12 ≤ length bytes = ltb-false (length bytes) 12 fits in
    test_in bytes (ArePlaced bytes) (u32_at bytes 0 == collection_kind) _ _ (λ kind. collection_in bytes (u32_at bytes 8) kind long) (λ other face less.
    let here : face_place bytes face ≡ 0 = ap (λ b. cond b (u32_at bytes (12 + 4 * face)) 0) other in
    rw here long)))

-- ---- tables

abbrev EndsIn : List ℕ → Directory → Type 0
EndsIn bytes directory = directory_end directory ≤ length bytes

directory_in : (bytes : List ℕ) (at : ℕ) → at + 12 ≤ length bytes → IsReadIn bytes (EndsIn bytes) (directory_at bytes at)
directory_in bytes at room =
    test_in bytes (EndsIn bytes) (not (is_face_kind (u32_at bytes at))) _ _ (λ _. omega arith) (λ _.
    test_in bytes (EndsIn bytes) (nat_lt (length bytes) ((at + 12) + 16 * u16_at bytes (at + 4))) _ _ (λ _. omega arith) (λ fits.
    ltb-false (length bytes) ((at + 12) + 16 * u16_at bytes (at + 4)) fits))

from_in : (bytes : List ℕ) (name entry n : ℕ) → IfSome (table_from bytes name entry n) (IsTableIn bytes)
from_in bytes name entry zero = tt
from_in bytes name entry (suc n) = either (is_table bytes name entry) refl (table_from bytes name (entry + 16) n) (from_in bytes name (entry + 16) n)
  where
    either : (b : Bool) → is_table bytes name entry ≡ b → (o : Option Table) → IfSome o (IsTableIn bytes) → IfSome (cond b (Some (table_at bytes entry)) o) (IsTableIn bytes)
    either true e o h = leb-true (u32_at bytes (entry + 8) + u32_at bytes (entry + 12)) (length bytes) (and_parts (u32_at bytes entry == name) (nat_le (u32_at bytes (entry + 8) + u32_at bytes (entry + 12)) (length bytes)) e).1
    either false e o h = h

-- a table of a face, which has the bytes that it needs
abbrev IsLongTable : List ℕ → Tag → Table → Type 0
IsLongTable bytes tag table = IsTableIn bytes table × (least_size tag ≤ table.size)

needed_in : (bytes : List ℕ) (directory : Directory) (tag : Tag) → EndsIn bytes directory → IsReadIn bytes (IsLongTable bytes tag) (needed_table bytes directory tag)
needed_in bytes directory tag ends = found (table_named bytes directory (name_of tag)) (from_in bytes (name_of tag) directory.first directory.count)
  where
    found : (o : Option Table) → IfSome o (IsTableIn bytes) → IsReadIn bytes (IsLongTable bytes tag) (needed_or (directory_end directory) tag o)
    found None h = ends
    found (Some table) h =
        test_in bytes (IsLongTable bytes tag) (nat_lt table.size (least_size tag)) _ _ (λ _. omega (arith, h)) (λ fits. (h, ltb-false table.size (least_size tag) fits))

-- ---- outlines

read_in : (bytes : List ℕ) (table : Table) (r : Result CffFont CffRefusal) → IsTableIn bytes table → IsFaultIn (table_span table) r → IsReadIn bytes Any (outlines_read r)
read_in bytes table (Ok font) within h = tt
read_in bytes table (Err refusal) within h = omega (arith, within, h.1)

post_script_in : (bytes : List ℕ) (table : Table) → IsTableIn bytes table → IsReadIn bytes Any (post_script_outlines bytes table)
post_script_in bytes table within = read_in bytes table (cff_of bytes (table_span table)) within (faults-in bytes (table_span table) (omega arith))

true_type_in : (bytes : List ℕ) (directory : Directory) → EndsIn bytes directory → IsReadIn bytes Any (true_type_outlines bytes directory)
true_type_in bytes directory ends =
    then_in bytes (IsLongTable bytes Loca) Any (needed_table bytes directory Loca) _ (needed_in bytes directory Loca ends) (λ loca _.
    then_in bytes (IsLongTable bytes Glyf) Any (needed_table bytes directory Glyf) _ (needed_in bytes directory Glyf ends) (λ glyf _. tt))

outlines_in : (bytes : List ℕ) (directory : Directory) → EndsIn bytes directory → IsReadIn bytes Any (outlines_of bytes directory)
outlines_in bytes directory ends = found (table_named bytes directory (name_of Glyf)) (table_named bytes directory cff_name) (from_in bytes cff_name directory.first directory.count)
  where
    found : (glyf cff : Option Table) → IfSome cff (IsTableIn bytes) → IsReadIn bytes Any (outlines_by bytes directory glyf cff)
    found None (Some cff) h = post_script_in bytes cff h
    found None None h = true_type_in bytes directory ends
    found (Some glyf) None h = true_type_in bytes directory ends
    found (Some glyf) (Some cff) h = true_type_in bytes directory ends

-- the tables whose bytes faults name
abbrev AreLongTables : List ℕ → Tables → Type 0
AreLongTables bytes tables = IsLongTable bytes Head tables.head × IsLongTable bytes Maxp tables.maxp × IsLongTable bytes Cmap tables.cmap

tables_in : (bytes : List ℕ) (directory : Directory) → EndsIn bytes directory → IsReadIn bytes (AreLongTables bytes) (tables_of bytes directory)
tables_in bytes directory ends =
    test_in bytes (AreLongTables bytes) (is_second_version bytes directory) _ _ (λ _. ends) (λ _.
    then_in bytes (IsLongTable bytes Head) (AreLongTables bytes) (needed_table bytes directory Head) _ (needed_in bytes directory Head ends) (λ head head_in.
    then_in bytes (IsLongTable bytes Maxp) (AreLongTables bytes) (needed_table bytes directory Maxp) _ (needed_in bytes directory Maxp ends) (λ maxp maxp_in.
    then_in bytes (IsLongTable bytes Hhea) (AreLongTables bytes) (needed_table bytes directory Hhea) _ (needed_in bytes directory Hhea ends) (λ hhea hhea_in.
    then_in bytes (IsLongTable bytes Hmtx) (AreLongTables bytes) (needed_table bytes directory Hmtx) _ (needed_in bytes directory Hmtx ends) (λ hmtx hmtx_in.
    then_in bytes Any (AreLongTables bytes) (outlines_of bytes directory) _ (outlines_in bytes directory ends) (λ outlines _.
    then_in bytes (IsLongTable bytes Cmap) (AreLongTables bytes) (needed_table bytes directory Cmap) _ (needed_in bytes directory Cmap ends) (λ cmap cmap_in.
    (head_in, maxp_in, cmap_in))))))))

-- ---- numbers

numbers_in : (bytes : List ℕ) (directory : Directory) (tables : Tables) → AreLongTables bytes tables → IsReadIn bytes Any (sfnt_numbers bytes directory tables)
numbers_in bytes directory tables (head, maxp, cmap) =
    test_in bytes Any (u16_at bytes (tables.head.place + 18) == 0) _ _ (λ _. omega (arith, head.0, head.1)) (λ _.
    test_in bytes Any (u16_at bytes (tables.maxp.place + 4) == 0) _ _ (λ _. omega (arith, maxp.0, maxp.1)) (λ _. tt))

-- ---- the map

abbrev IsChoiceIn : Table → Choice → Type 0
IsChoiceIn cmap best = (best.rank ≡ no_rank) ⊎ (best.place + 2 ≤ table_end cmap)

choice-step : (cmap : Table) (place rank : ℕ) (b read : Bool) → (nat_le (place + 2) (table_end cmap) && read) ≡ b → IsChoiceIn cmap (cond b (record { rank = rank; place = place }) no_choice)
choice-step cmap place rank true read e = inr (leb-true (place + 2) (table_end cmap) (and_parts (nat_le (place + 2) (table_end cmap)) read e).0)
choice-step cmap place rank false read e = inl refl

choice_in : (bytes : List ℕ) (cmap : Table) (at : ℕ) → IsChoiceIn cmap (choice_at bytes cmap at)
choice_in bytes cmap at =
    choice-step cmap (cmap.place + u32_at bytes (at + 4)) (map_rank (u16_at bytes at) (u16_at bytes (at + 2))) (is_read_map bytes cmap (cmap.place + u32_at bytes (at + 4)))
    ((u16_at bytes (cmap.place + u32_at bytes (at + 4)) == 4) || (u16_at bytes (cmap.place + u32_at bytes (at + 4)) == 12)) refl

better_in : (cmap : Table) (best next : Choice) → IsChoiceIn cmap best → IsChoiceIn cmap next → IsChoiceIn cmap (better best next)
better_in cmap best next h k = either (nat_lt next.rank best.rank)
  where
    either : (b : Bool) → IsChoiceIn cmap (cond b next best)
    either true = k
    either false = h

best_in : (bytes : List ℕ) (cmap : Table) (at n : ℕ) (best : Choice) → IsChoiceIn cmap best → IsChoiceIn cmap (best_map bytes cmap at n best)
best_in bytes cmap at zero best h = h
best_in bytes cmap at (suc n) best h = best_in bytes cmap (at + 8) n (better best (choice_at bytes cmap at)) (better_in cmap best (choice_at bytes cmap at) h (choice_in bytes cmap at))

abbrev IsPlaced : Table → Choice → Type 0
IsPlaced cmap choice = choice.place + 2 ≤ table_end cmap

none_in : (bytes : List ℕ) (cmap : Table) (best : Choice) → IsTableIn bytes cmap → IsChoiceIn cmap best → IsReadIn bytes (IsPlaced cmap) (unless_none cmap best)
none_in bytes cmap best within h = test_in bytes (IsPlaced cmap) (best.rank == no_rank) _ _ (λ _. omega (arith, within)) (λ ranked. placed h ranked)
  where
    placed : IsChoiceIn cmap best → (best.rank == no_rank) ≡ false → IsPlaced cmap best
    placed (inl none) ranked = absurd (grind (arith, nat_tests))
    placed (inr room) ranked = room

chosen_in : (bytes : List ℕ) (cmap : Table) → IsLongTable bytes Cmap cmap → IsReadIn bytes (IsPlaced cmap) (chosen_map bytes cmap)
chosen_in bytes cmap (within, long) =
    test_in bytes (IsPlaced cmap) (nat_lt (table_end cmap) (cmap.place + 4 + 8 * u16_at bytes (cmap.place + 2))) _ _ (λ _. omega (arith, within, long)) (λ _.
    none_in bytes cmap (best_map bytes cmap (cmap.place + 4) (u16_at bytes (cmap.place + 2)) no_choice) within (best_in bytes cmap (cmap.place + 4) (u16_at bytes (cmap.place + 2)) no_choice (inl refl)))

-- the entries of a map lie in the file
abbrev entry_size : MapFormat → ℕ
entry_size Ranges = 8
entry_size Groups = 12

abbrev IsWholeMap : List ℕ → CharacterMap → Type 0
IsWholeMap bytes m = m.place + 16 + entry_size m.format * m.count ≤ length bytes

groups_in : (bytes : List ℕ) (cmap : Table) (choice : Choice) → IsTableIn bytes cmap → IsPlaced cmap choice → IsReadIn bytes (IsWholeMap bytes) (groups_map bytes cmap choice)
groups_in bytes cmap choice within placed =
    test_in bytes (IsWholeMap bytes) (nat_lt (table_end cmap) (choice.place + 16)) _ _ (λ _. omega (arith, within, placed)) (λ head.
    let room : choice.place + 16 ≤ table_end cmap = ltb-false (table_end cmap) (choice.place + 16) head in
    test_in bytes (IsWholeMap bytes) (nat_lt (table_end cmap) (choice.place + 16 + 12 * u32_at bytes (choice.place + 12))) _ _ (λ _. omega (arith, within, room)) (λ all.
    let whole : choice.place + 16 + 12 * u32_at bytes (choice.place + 12) ≤ table_end cmap = ltb-false (table_end cmap) (choice.place + 16 + 12 * u32_at bytes (choice.place + 12)) all in
    omega (arith, within, whole)))

ranges_in : (bytes : List ℕ) (cmap : Table) (choice : Choice) → IsTableIn bytes cmap → IsPlaced cmap choice → IsReadIn bytes (IsWholeMap bytes) (ranges_map bytes cmap choice)
ranges_in bytes cmap choice within placed =
    test_in bytes (IsWholeMap bytes) (nat_lt (table_end cmap) (choice.place + 14)) _ _ (λ _. omega (arith, within, placed)) (λ head.
    let room : choice.place + 14 ≤ table_end cmap = ltb-false (table_end cmap) (choice.place + 14) head in
    test_in bytes (IsWholeMap bytes) (nat_lt (table_end cmap) (choice.place + 16 + 8 * (u16_at bytes (choice.place + 6) / 2))) _ _ (λ _. omega (arith, within, room)) (λ all.
    let whole : choice.place + 16 + 8 * (u16_at bytes (choice.place + 6) / 2) ≤ table_end cmap = ltb-false (table_end cmap) (choice.place + 16 + 8 * (u16_at bytes (choice.place + 6) / 2)) all in
    omega (arith, within, whole)))

map_in : (bytes : List ℕ) (cmap : Table) → IsLongTable bytes Cmap cmap → IsReadIn bytes (IsWholeMap bytes) (map_of bytes cmap)
map_in bytes cmap (within, long) =
    then_in bytes (IsPlaced cmap) (IsWholeMap bytes) (chosen_map bytes cmap) (whole_map bytes cmap) (chosen_in bytes cmap (within, long)) (λ choice placed.
    test_in bytes (IsWholeMap bytes) (u16_at bytes choice.place == 12) _ _ (λ _. groups_in bytes cmap choice within placed) (λ _. ranges_in bytes cmap choice within placed))

-- ---- segments

by_format : (format : MapFormat) (bytes : List ℕ) (m : CharacterMap) (k low before : ℕ) → m.place + 16 + entry_size format * m.count ≤ length bytes → k < m.count → IsReadIn bytes Any (segment_in format bytes m k low before)
by_format Groups bytes m k low before whole less =
    let room : m.place + 16 + 12 * m.count ≤ length bytes = whole in
    test_in bytes Any (nat_le low (u32_at bytes (group_place m k)) && nat_le (u32_at bytes (group_place m k)) (u32_at bytes (group_place m k + 4)) && nat_le (u32_at bytes (group_place m k + 4)) max_code) _ _
    (λ _. tt) (λ _. omega (arith, room, less))
by_format Ranges bytes m k low before whole less =
    let room : m.place + 16 + 8 * m.count ≤ length bytes = whole in
    test_in bytes Any (nat_lt (u16_at bytes (last_code_place m k)) low) _ _ (λ _. omega (arith, room, less)) (λ _.
    test_in bytes Any (nat_lt (u16_at bytes (last_code_place m k)) (u16_at bytes (first_code_place m k))) _ _ (λ _. omega (arith, room, less)) (λ _. tt))

segment_in_file : (bytes : List ℕ) (m : CharacterMap) (k low before : ℕ) → IsWholeMap bytes m → k < m.count → IsReadIn bytes Any (segment_at bytes m k low before)
segment_in_file bytes m k low before whole less = by_format m.format bytes m k low before whole less

segments_from_in : (bytes : List ℕ) (m : CharacterMap) (k n low before : ℕ) → IsWholeMap bytes m → k + n ≤ m.count → IsReadIn bytes Any (segments_from bytes m k n low before)
segments_from_in bytes m k zero low before whole fits = tt
segments_from_in bytes m k (suc n) low before whole fits =
    then_in bytes Any Any (segment_at bytes m k low before) _ (segment_in_file bytes m k low before whole (omega arith)) (λ segment _.
    then_in bytes Any Any (segments_from bytes m (k + 1) n (segment.last + 1) (codes_to segment)) _ (segments_from_in bytes m (k + 1) n (segment.last + 1) (codes_to segment) whole (omega arith)) (λ rest _. tt))

-- ---- the font

abbrev IsOf : List ℕ → SfntFont → Type 0
IsOf bytes font = font.bytes ≡ bytes

font_in : (bytes : List ℕ) (directory : Directory) → EndsIn bytes directory → IsReadIn bytes (IsOf bytes) (font_of bytes directory)
font_in bytes directory ends =
    then_in bytes (AreLongTables bytes) (IsOf bytes) (tables_of bytes directory) _ (tables_in bytes directory ends) (λ tables long.
    then_in bytes Any (IsOf bytes) (sfnt_numbers bytes directory tables) _ (numbers_in bytes directory tables long) (λ numbers _.
    then_in bytes (IsWholeMap bytes) (IsOf bytes) (map_of bytes tables.cmap) _ (map_in bytes tables.cmap long.2) (λ m whole.
    then_in bytes Any (IsOf bytes) (segments_of bytes m) _ (segments_from_in bytes m 0 m.count 0 0 whole (omega arith)) (λ segments _. refl))))

pub is_one_answer : OneFaceAnswer
is_one_answer bytes face has = counted (face_count bytes) (faces_in bytes) has
  where
    counted : (r : Result ℕ SfntRefusal) → IsReadIn bytes (ArePlaced bytes) r → IfOk r (λ n. face < n) → IsReadIn bytes (IsOf bytes) (then_read r (λ faces. then_read (directory_at bytes (face_place bytes face)) (font_of bytes)))
    counted (Ok n) placed less =
        then_in bytes (EndsIn bytes) (IsOf bytes) (directory_at bytes (face_place bytes face)) (font_of bytes) (directory_in bytes (face_place bytes face) (placed face less)) (font_in bytes)
    counted (Err (BadFont byte cause)) placed less = placed
    counted (Err (TooLarge most)) placed less = placed
    counted (Err OutOfMemory) placed less = placed
