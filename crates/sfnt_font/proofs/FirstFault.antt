-- The reading keeps the rules of the format one after another.
use Rattle.std.proofs.Common.{◌≡◌, ℕ, ◌+◌, ◌*◌, ◌/◌, List, [], ◌∷◌, ◌++◌, length, Bool, true, false, cond, ◌&&◌, not, Option, Some, None, Result, Ok, Err, refl, ap, sym, subst, ◌∙◌}
use Rattle.std.specs.Prelude.{nat_lt, ◌==◌, is_some, unwrap_or, option_map}
use Rattle.std.specs.Option.{option_or}
use Rattle.sfnt_font.specs.declared.cause.Tag.{Tag}
use Rattle.sfnt_font.specs.declared.cause.Tag.TheVariants.{Head, Maxp, Hhea, Hmtx, Loca, Glyf, Cmap}
use Rattle.sfnt_font.specs.declared.cause.SfntCause.TheVariants.{BadPlace, Ends, NoTable, ShortTable}
use Rattle.sfnt_font.specs.declared.cause.SfntRefusal.{SfntRefusal}
use Rattle.sfnt_font.specs.declared.cause.SfntRefusal.TheVariants.{BadFont, TooLarge}
use Rattle.sfnt_font.specs.declared.directory.Directory.{Directory}
use Rattle.sfnt_font.specs.declared.directory.Table.{Table}
use Rattle.sfnt_font.specs.declared.font.SfntFont.{SfntFont}
use Rattle.sfnt_font.specs.declared.maps.CharacterMap.{CharacterMap}
use Rattle.sfnt_font.specs.declared.maps.Choice.{Choice}
use Rattle.sfnt_font.specs.declared.numbers.Numbers.{Numbers}
use Rattle.sfnt_font.specs.declared.segments.Segment.{Segment}
use Rattle.sfnt_font.specs.declared.tables.Outlines.{Outlines}
use Rattle.sfnt_font.specs.declared.tables.Outlines.TheVariants.{TrueTypeOutlines}
use Rattle.sfnt_font.specs.declared.tables.Tables.{Tables}
use Rattle.cff_font.specs.declared.cause.CffRefusal.{CffRefusal}
use Rattle.cff_font.specs.declared.read.CffFont.{CffFont}
use Rattle.cff_font.specs.Fonts.{cff_of}
use Rattle.sfnt_font.specs.Answers.{then_read}
use Rattle.font_bytes.specs.Bytes.{u16_at, u32_at}
use Rattle.sfnt_font.specs.Faces.{bad_face, collection_count, face_count, face_place, is_compressed, is_face_kind, max_faces, unless_misplaced}
use Rattle.sfnt_font.specs.Directory.{directory_at, cff_name, directory_end, is_second_version, least_size, name_of, outlines_by, outlines_of, outlines_read, true_type_outlines, needed_or, needed_table, table_end, table_named, table_span, tables_of, unless_short, metrics_name, post_name}
use Rattle.sfnt_font.specs.Numbers.{made_numbers, sfnt_numbers}
use Rattle.sfnt_font.specs.Maps.{chosen_map, groups_map, groups_of, map_of, no_rank, ranges_map, ranges_of, segments_of, whole_map}
use Rattle.sfnt_font.specs.Fonts.{font_of, sfnt_of}
use Rattle.sfnt_font.specs.Names.{font_names}
use Rattle.sfnt_font.specs.Laws.{broken_if, first_broken, reading_fault, is_collection, face_rules, directory_rules, no_table, face_outlines, face_table, face_tables, needed_rules, outline_rules, outlines_or_none, read_rule, table_rules, number_rules, best_choice, choice_rules, groups_rules, ranges_rules, map_rules, map_at, font_rules, face_directory, IsFirstBroken}

-- a value, unless a rule is broken
abbrev unless_broken : {T : Type 0} → T → Option SfntRefusal → Result T SfntRefusal
unless_broken x None = Ok x
unless_broken x (Some refusal) = Err refusal

-- a reading keeps these rules, and then gives this value
record Keeps {T : Type 0} (r : Result T SfntRefusal) (rules : List (Option SfntRefusal)) (x : T) : Type 0 where
  is : r ≡ unless_broken x (first_broken rules)

none_broken : {T : Type 0} (x : T) → Keeps (Ok x) [] x
none_broken x = record { is = refl }

first_broken-append : (front back : List (Option SfntRefusal)) → first_broken (front ++ back) ≡ option_or (first_broken front) (first_broken back)
first_broken-append [] back = refl
first_broken-append (None ∷ front) back = first_broken-append front back
first_broken-append (Some refusal ∷ front) back = refl

rule : {T : Type 0} (b : Bool) (refusal : SfntRefusal) (r : Result T SfntRefusal) (rules : List (Option SfntRefusal)) (x : T) → Keeps r rules x → Keeps (cond b (Err refusal) r) (broken_if b refusal ∷ rules) x
rule true refusal r rules x h = record { is = refl }
rule false refusal r rules x h = record { is = h.is }

step-either : {T U : Type 0} (x : T) (y : U) (next : T → Result U SfntRefusal) (o : Option SfntRefusal) (rest : List (Option SfntRefusal)) → next x ≡ unless_broken y (first_broken rest) →
    then_read (unless_broken x o) next ≡ unless_broken y (option_or o (first_broken rest))
step-either x y next None rest k = k
step-either x y next (Some refusal) rest k = refl

step : {T U : Type 0} (r : Result T SfntRefusal) (rules : List (Option SfntRefusal)) (x : T) (next : T → Result U SfntRefusal) (rest : List (Option SfntRefusal)) (y : U) →
    Keeps r rules x → Keeps (next x) rest y → Keeps (then_read r next) (rules ++ rest) y
step r rules x next rest y h k = record { is = ap (λ r. then_read r next) h.is ∙ (step-either x y next (first_broken rules) rest k.is ∙ ap (unless_broken y) (sym (first_broken-append rules rest))) }

-- ---- faces

misplaced : (n : ℕ) (o : Option ℕ) → Keeps (unless_misplaced n o) (option_map (λ at. BadFont at BadPlace) o ∷ []) n
misplaced n None = record { is = refl }
misplaced n (Some at) = record { is = refl }

collection-step : (bytes : List ℕ) (n : ℕ) (b : Bool) → Keeps (cond b (collection_count bytes n) (Ok 1))
    (broken_if (b && nat_lt max_faces n) (TooLarge max_faces) ∷ broken_if (b && (n == 0)) (BadFont 8 BadPlace) ∷ broken_if (b && nat_lt (length bytes) (12 + 4 * n)) (BadFont (length bytes) Ends)
    ∷ option_map (λ at. BadFont at BadPlace) (cond b (bad_face bytes 12 n) None) ∷ []) (cond b n 1)
collection-step bytes n true = rule (nat_lt max_faces n) _ _ _ _ (rule (n == 0) _ _ _ _ (rule (nat_lt (length bytes) (12 + 4 * n)) _ _ _ _ (misplaced n (bad_face bytes 12 n))))
collection-step bytes n false = record { is = refl }

faces_rules : (bytes : List ℕ) → Keeps (face_count bytes) (face_rules bytes) (cond (is_collection bytes) (u32_at bytes 8) 1)
faces_rules bytes = rule (is_compressed (u32_at bytes 0)) _ _ _ _ (rule (nat_lt (length bytes) 12) _ _ _ _ (collection-step bytes (u32_at bytes 8) (is_collection bytes)))

-- ---- tables

face_rules_at : (bytes : List ℕ) (at : ℕ) → Keeps (directory_at bytes at) (directory_rules bytes at) (face_directory bytes at)
face_rules_at bytes at =
    rule (not (is_face_kind (u32_at bytes at))) _ _ _ _ (rule (nat_lt (length bytes) ((at + 12) + 16 * u16_at bytes (at + 4))) _ _ _ _ (none_broken (face_directory bytes at)))

needed-step : (directory : Directory) (tag : Tag) (o : Option Table) → Keeps (needed_or (directory_end directory) tag o)
    (broken_if (not (is_some o)) (BadFont (directory_end directory) (NoTable tag)) ∷ broken_if (nat_lt (unwrap_or o no_table).size (least_size tag)) (BadFont (unwrap_or o no_table).place (ShortTable tag)) ∷ [])
    (unwrap_or o no_table)
needed-step directory tag None = record { is = refl }
needed-step directory tag (Some table) = record { is = (rule (nat_lt table.size (least_size tag)) (BadFont table.place (ShortTable tag)) (Ok table) [] table (none_broken table)).is }

needed_keeps : (bytes : List ℕ) (directory : Directory) (tag : Tag) → Keeps (needed_table bytes directory tag) (needed_rules bytes directory tag) (face_table bytes directory tag)
needed_keeps bytes directory tag = needed-step directory tag (table_named bytes directory (name_of tag))

-- the outlines of a face
abbrev face_true_type : List ℕ → Directory → Outlines
face_true_type bytes directory = TrueTypeOutlines (face_table bytes directory Loca) (face_table bytes directory Glyf)

read_keeps : (bytes : List ℕ) (directory : Directory) (r : Result CffFont CffRefusal) → Keeps (outlines_read r) (read_rule r ∷ []) (outlines_or_none bytes directory (outlines_read r))
read_keeps bytes directory (Ok font) = record { is = refl }
read_keeps bytes directory (Err refusal) = record { is = refl }

true_type_is : (bytes : List ℕ) (directory : Directory) (o : Option SfntRefusal) → outlines_or_none bytes directory (unless_broken (face_true_type bytes directory) o) ≡ face_true_type bytes directory
true_type_is bytes directory None = refl
true_type_is bytes directory (Some refusal) = refl

true_type_keeps : (bytes : List ℕ) (directory : Directory) →
    Keeps (true_type_outlines bytes directory) (needed_rules bytes directory Loca ++ needed_rules bytes directory Glyf) (outlines_or_none bytes directory (true_type_outlines bytes directory))
true_type_keeps bytes directory =
    let rules = needed_rules bytes directory Loca ++ needed_rules bytes directory Glyf in
    let kept : Keeps (true_type_outlines bytes directory) rules (face_true_type bytes directory) =
    step (needed_table bytes directory Loca) (needed_rules bytes directory Loca) (face_table bytes directory Loca) _ _ _ (needed_keeps bytes directory Loca)
    (step (needed_table bytes directory Glyf) (needed_rules bytes directory Glyf) (face_table bytes directory Glyf) _ [] _ (needed_keeps bytes directory Glyf)
    (none_broken (face_true_type bytes directory))) in
    let same : outlines_or_none bytes directory (true_type_outlines bytes directory) ≡ face_true_type bytes directory =
    ap (outlines_or_none bytes directory) kept.is ∙ true_type_is bytes directory (first_broken rules) in
    subst (Keeps (true_type_outlines bytes directory) rules) (sym same) kept

outlines-step : (bytes : List ℕ) (directory : Directory) (glyf cff : Option Table) →
    Keeps (outlines_by bytes directory glyf cff) (outline_rules bytes directory glyf cff) (outlines_or_none bytes directory (outlines_by bytes directory glyf cff))
outlines-step bytes directory None (Some cff) = read_keeps bytes directory (cff_of bytes (table_span cff))
outlines-step bytes directory None None = true_type_keeps bytes directory
outlines-step bytes directory (Some glyf) None = true_type_keeps bytes directory
outlines-step bytes directory (Some glyf) (Some cff) = true_type_keeps bytes directory

abbrev outline_rules_of : List ℕ → Directory → List (Option SfntRefusal)
outline_rules_of bytes directory = outline_rules bytes directory (table_named bytes directory (name_of Glyf)) (table_named bytes directory cff_name)

outlines_keep : (bytes : List ℕ) (directory : Directory) → Keeps (outlines_of bytes directory) (outline_rules_of bytes directory) (face_outlines bytes directory)
outlines_keep bytes directory = outlines-step bytes directory (table_named bytes directory (name_of Glyf)) (table_named bytes directory cff_name)

tables_keep : (bytes : List ℕ) (directory : Directory) → Keeps (tables_of bytes directory) (table_rules bytes directory) (face_tables bytes directory)
tables_keep bytes directory =
    rule (is_second_version bytes directory) _ _ _ _
    (step (needed_table bytes directory Head) (needed_rules bytes directory Head) (face_table bytes directory Head) _ _ _ (needed_keeps bytes directory Head)
    (step (needed_table bytes directory Maxp) (needed_rules bytes directory Maxp) (face_table bytes directory Maxp) _ _ _ (needed_keeps bytes directory Maxp)
    (step (needed_table bytes directory Hhea) (needed_rules bytes directory Hhea) (face_table bytes directory Hhea) _ _ _ (needed_keeps bytes directory Hhea)
    (step (needed_table bytes directory Hmtx) (needed_rules bytes directory Hmtx) (face_table bytes directory Hmtx) _ _ _ (needed_keeps bytes directory Hmtx)
    (step (outlines_of bytes directory) (outline_rules_of bytes directory) (face_outlines bytes directory) _ _ _ (outlines_keep bytes directory)
    (step (needed_table bytes directory Cmap) (needed_rules bytes directory Cmap) (face_table bytes directory Cmap) _ _ _ (needed_keeps bytes directory Cmap)
    (none_broken (face_tables bytes directory))))))))

-- ---- numbers and the map

abbrev face_numbers : List ℕ → Directory → Tables → Numbers
face_numbers bytes directory tables = made_numbers bytes tables (unless_short 78 (table_named bytes directory metrics_name)) (unless_short 12 (table_named bytes directory post_name))

numbers_keep : (bytes : List ℕ) (directory : Directory) (tables : Tables) → Keeps (sfnt_numbers bytes directory tables) (number_rules bytes tables) (face_numbers bytes directory tables)
numbers_keep bytes directory tables = rule (u16_at bytes (tables.head.place + 18) == 0) _ _ _ _ (rule (u16_at bytes (tables.maxp.place + 4) == 0) _ _ _ _ (none_broken (face_numbers bytes directory tables)))

choice_keeps : (bytes : List ℕ) (cmap : Table) → Keeps (chosen_map bytes cmap) (choice_rules bytes cmap) (best_choice bytes cmap)
choice_keeps bytes cmap = rule (nat_lt (table_end cmap) (cmap.place + 4 + 8 * u16_at bytes (cmap.place + 2))) _ _ _ _ (rule ((best_choice bytes cmap).rank == no_rank) _ _ _ _ (none_broken (best_choice bytes cmap)))

map-step : (bytes : List ℕ) (cmap : Table) (choice : Choice) (b : Bool) → Keeps (cond b (groups_map bytes cmap choice) (ranges_map bytes cmap choice))
    (cond b (groups_rules bytes cmap choice) (ranges_rules bytes cmap choice)) (cond b (groups_of bytes cmap choice) (ranges_of bytes cmap choice))
map-step bytes cmap choice true =
    rule (nat_lt (table_end cmap) (choice.place + 16)) _ _ _ _ (rule (nat_lt (table_end cmap) (choice.place + 16 + 12 * u32_at bytes (choice.place + 12))) _ _ _ _ (none_broken (groups_of bytes cmap choice)))
map-step bytes cmap choice false =
    rule (nat_lt (table_end cmap) (choice.place + 14)) _ _ _ _ (rule (nat_lt (table_end cmap) (choice.place + 16 + 8 * (u16_at bytes (choice.place + 6) / 2))) _ _ _ _ (none_broken (ranges_of bytes cmap choice)))

map_keeps : (bytes : List ℕ) (cmap : Table) (choice : Choice) → Keeps (whole_map bytes cmap choice) (map_rules bytes cmap choice) (map_at bytes cmap choice)
map_keeps bytes cmap choice = map-step bytes cmap choice (u16_at bytes choice.place == 12)

abbrev segments_or_none : Result (List Segment) SfntRefusal → List Segment
segments_or_none (Ok segments) = segments
segments_or_none (Err refusal) = []

-- ---- the font

abbrev face_map : List ℕ → Tables → CharacterMap
face_map bytes tables = map_at bytes tables.cmap (best_choice bytes tables.cmap)

abbrev font_with : List ℕ → Directory → Tables → Numbers → CharacterMap → List Segment → SfntFont
font_with bytes directory tables numbers m segments = record { bytes = bytes; tables = tables; numbers = numbers; character_map = m; segments = segments; names = font_names bytes directory }

abbrev face_font : List ℕ → Directory → Tables → SfntFont
face_font bytes directory tables =
    font_with bytes directory tables (face_numbers bytes directory tables) (face_map bytes tables) (segments_or_none (segments_of bytes (face_map bytes tables)))

segments-step : (bytes : List ℕ) (directory : Directory) (tables : Tables) (numbers : Numbers) (m : CharacterMap) (r : Result (List Segment) SfntRefusal) →
    Keeps (then_read r (λ segments. Ok (font_with bytes directory tables numbers m segments))) (reading_fault r ∷ []) (font_with bytes directory tables numbers m (segments_or_none r))
segments-step bytes directory tables numbers m (Ok segments) = record { is = refl }
segments-step bytes directory tables numbers m (Err refusal) = record { is = refl }

font_keeps : (bytes : List ℕ) (directory : Directory) → Keeps (font_of bytes directory) (table_rules bytes directory ++ font_rules bytes (face_tables bytes directory)) (face_font bytes directory (face_tables bytes directory))
font_keeps bytes directory =
    let tables = face_tables bytes directory in
    let choice = best_choice bytes tables.cmap in
    let font = face_font bytes directory tables in
    let segments = segments-step bytes directory tables (face_numbers bytes directory tables) (face_map bytes tables) (segments_of bytes (face_map bytes tables)) in
    let map_kept : Keeps (map_of bytes tables.cmap) (choice_rules bytes tables.cmap ++ map_rules bytes tables.cmap choice) (face_map bytes tables) =
    step (chosen_map bytes tables.cmap) (choice_rules bytes tables.cmap) choice (whole_map bytes tables.cmap) (map_rules bytes tables.cmap choice) (face_map bytes tables) (choice_keeps bytes tables.cmap) (map_keeps bytes tables.cmap choice) in
    step (tables_of bytes directory) (table_rules bytes directory) tables _ (font_rules bytes tables) font (tables_keep bytes directory)
    (step (sfnt_numbers bytes directory tables) (number_rules bytes tables) (face_numbers bytes directory tables) _ _ font (numbers_keep bytes directory tables)
    (step (map_of bytes tables.cmap) (choice_rules bytes tables.cmap ++ map_rules bytes tables.cmap choice) (face_map bytes tables) _ _ font map_kept segments))

fault_is : {T : Type 0} (x : T) (o : Option SfntRefusal) → reading_fault (unless_broken x o) ≡ o
fault_is x None = refl
fault_is x (Some refusal) = refl

pub is_first_fault : IsFirstBroken
is_first_fault bytes face =
    let at = face_place bytes face in
    let directory = face_directory bytes at in
    let font = face_font bytes directory (face_tables bytes directory) in
    let rest = table_rules bytes directory ++ font_rules bytes (face_tables bytes directory) in
    let kept : Keeps (sfnt_of bytes face) (face_rules bytes ++ (directory_rules bytes at ++ rest)) font =
    step (face_count bytes) (face_rules bytes) _ _ (directory_rules bytes at ++ rest) font (faces_rules bytes)
    (step (directory_at bytes at) (directory_rules bytes at) directory (font_of bytes) rest font (face_rules_at bytes at) (font_keeps bytes directory)) in
    ap reading_fault kept.is ∙ fault_is font (first_broken (face_rules bytes ++ (directory_rules bytes at ++ rest)))
