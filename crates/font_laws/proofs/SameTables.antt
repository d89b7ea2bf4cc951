-- Where two files agree on a face, its directory names the same tables in both, and these agree.
use Rattle.std.proofs.Common.{◌≡◌, ℕ, zero, suc, ◌+◌, ◌*◌, ◌<◌, ◌≤◌, List, length, Bool, true, false, cond, ◌&&◌, not, Option, Some, None, Result, Ok, Err, refl, ap, sym, subst, ◌∙◌, arith}
use Rattle.std.specs.Prelude.{nat_lt, ◌==◌, is_some, IfOk, IfSome}
use Rattle.std.proofs.lemmas.Bool.{ltb-false}
use Rattle.sfnt_font.specs.declared.cause.Tag.{Tag}
use Rattle.sfnt_font.specs.declared.cause.Tag.TheVariants.{Head, Maxp, Hhea, Hmtx, Loca, Glyf, Cmap}
use Rattle.sfnt_font.specs.declared.cause.SfntCause.TheVariants.{Ends}
use Rattle.sfnt_font.specs.declared.cause.SfntRefusal.{SfntRefusal}
use Rattle.sfnt_font.specs.declared.cause.SfntRefusal.TheVariants.{BadFont}
use Rattle.sfnt_font.specs.declared.directory.Table.{Table}
use Rattle.sfnt_font.specs.declared.tables.Outlines.{Outlines}
use Rattle.sfnt_font.specs.declared.tables.Outlines.TheVariants.{TrueTypeOutlines, PostScriptOutlines}
use Rattle.sfnt_font.specs.declared.tables.Tables.{Tables}
use Rattle.cff_font.specs.declared.cause.CffRefusal.{CffRefusal}
use Rattle.cff_font.specs.declared.read.CffFont.{CffFont}
use Rattle.sfnt_font.specs.Answers.{then_read}
use Rattle.font_bytes.specs.Bytes.{u16_at, u32_at}
use Rattle.sfnt_font.specs.Faces.{bad_face, collection_kind, collection_count, face_count, face_place, is_compressed, is_face_kind, max_faces, unless_misplaced}
use Rattle.sfnt_font.specs.Directory.{directory_at, whole_directory, table_at, is_table, table_from, table_named, name_of, least_size, needed_or, needed_table, is_post_script, is_second_version, outlines_by, outlines_of, outlines_read, table_end, table_span, true_type_outlines, tables_of, unless_short, directory_end, cff_name, cff2_name}
use Rattle.sfnt_font.specs.Laws.{face_directory, is_collection}
use Rattle.font_laws.specs.Laws.{AgreeOn, AgreeOnTable, AgreeOnDirectory, head_end}
use Rattle.font_laws.proofs.Agreed.{u16_same, u32_same, if_same}
use Rattle.font_laws.proofs.SameCff.{AreFound, IsFontFrom, cff_both}
use Rattle.font_laws.proofs.SameCharstrings.{IsWholeFont}

-- Two readings give one answer, and a value of which this holds.
pub record AreSameReadings {T : Type 0} (P : T → Type 0) (r s : Result T SfntRefusal) : Type 0 where
  pub same : r ≡ s
  pub holds : IfOk r P

pub then_same : {T U : Type 0} (P : T → Type 0) (Q : U → Type 0) (r s : Result T SfntRefusal) (f g : T → Result U SfntRefusal) →
    AreSameReadings P r s → ((x : T) → P x → AreSameReadings Q (f x) (g x)) → AreSameReadings Q (then_read r f) (then_read s g)
then_same P Q (Ok x) s f g h step = record { same = (step x h.holds).same ∙ ap (λ r. then_read r g) h.same; holds = (step x h.holds).holds }
then_same P Q (Err refusal) s f g h step = record { same = ap (λ r. then_read r g) h.same; holds = tt }

pub test_same : {T : Type 0} (P : T → Type 0) (b c : Bool) (x y u v : Result T SfntRefusal) →
    b ≡ c → (b ≡ true → AreSameReadings P x u) → (b ≡ false → AreSameReadings P y v) → AreSameReadings P (cond b x y) (cond c u v)
test_same P true true x y u v e h k = h refl
test_same P false false x y u v e h k = k refl
test_same P true false x y u v e h k = absurd cc
test_same P false true x y u v e h k = absurd cc

pub both_refused : {T : Type 0} (P : T → Type 0) (refusal : SfntRefusal) → AreSameReadings P (Err refusal) (Err refusal)
both_refused P refusal = record { same = refl; holds = tt }

pub both_ended : {T : Type 0} (P : T → Type 0) (a b : List ℕ) → length a ≡ length b → AreSameReadings P (Err (BadFont (length a) Ends)) (Err (BadFont (length b) Ends))
both_ended P a b long = record { same = ap (λ l. Err (BadFont l Ends)) long; holds = tt }

-- ---- faces

bad_face_same : (a b : List ℕ) (to at n : ℕ) → length a ≡ length b → AgreeOn a b 0 to → at + 4 * n ≤ to → bad_face a at n ≡ bad_face b at n
bad_face_same a b to at zero long h room = refl
bad_face_same a b to at (suc n) long h room =
    let place : u32_at a at ≡ u32_at b at = u32_same a b 0 to at h (omega arith) (omega arith) in
    let test : nat_lt (length a) (u32_at a at + 12) ≡ nat_lt (length b) (u32_at b at + 12) = cc in
    if_same (nat_lt (length a) (u32_at a at + 12)) (nat_lt (length b) (u32_at b at + 12)) test (λ _. refl) (λ _. bad_face_same a b to (at + 4) n long h (omega arith))

misplaced_same : (n : ℕ) (o p : Option ℕ) → o ≡ p → AreSameReadings (λ m. m ≡ n) (unless_misplaced n o) (unless_misplaced n p)
misplaced_same n None p e = record { same = ap (unless_misplaced n) e; holds = refl }
misplaced_same n (Some at) p e = record { same = ap (unless_misplaced n) e; holds = tt }

collection_same : (a b : List ℕ) (n : ℕ) → length a ≡ length b → AgreeOn a b 0 (12 + 4 * n) → AreSameReadings (λ m. m ≡ n) (collection_count a n) (collection_count b n)
collection_same a b n long h =
    let test : nat_lt (length a) (12 + 4 * n) ≡ nat_lt (length b) (12 + 4 * n) = ap (λ l. nat_lt l (12 + 4 * n)) long in
    test_same (λ m. m ≡ n) (nat_lt max_faces n) (nat_lt max_faces n) _ _ _ _ refl (λ _. both_refused (λ m. m ≡ n) _) (λ _.
    test_same (λ m. m ≡ n) (n == 0) (n == 0) _ _ _ _ refl (λ _. both_refused (λ m. m ≡ n) _) (λ _.
    test_same (λ m. m ≡ n) (nat_lt (length a) (12 + 4 * n)) (nat_lt (length b) (12 + 4 * n)) _ _ _ _ test (λ _. both_ended (λ m. m ≡ n) a b long) (λ _.
    misplaced_same n (bad_face a 12 n) (bad_face b 12 n) (bad_face_same a b (12 + 4 * n) 12 n long h (omega arith)))))

head_least : (bytes : List ℕ) → 12 ≤ head_end bytes
head_least bytes = either (is_collection bytes)
  where
    either : (c : Bool) → 12 ≤ cond c (12 + 4 * u32_at bytes 8) 12
    either true = omega arith
    either false = omega arith

file_kind_same : (a b : List ℕ) → AgreeOn a b 0 (head_end a) → u32_at a 0 ≡ u32_at b 0
file_kind_same a b h = let least = head_least a in u32_same a b 0 (head_end a) 0 h (omega arith) (omega (arith, least))

collection_end : (bytes : List ℕ) → is_collection bytes ≡ true → head_end bytes ≡ 12 + 4 * u32_at bytes 8
collection_end bytes is = ap (λ c. cond c (12 + 4 * u32_at bytes 8) 12) is

-- the faces of a collection are those that it lists
abbrev pub IsListed : List ℕ → ℕ → Type 0
IsListed bytes n = is_collection bytes ≡ true → n ≡ u32_at bytes 8

counted_same : (a b : List ℕ) → length a ≡ length b → AgreeOn a b 0 (head_end a) → is_collection a ≡ true → AreSameReadings (IsListed a) (collection_count a (u32_at a 8)) (collection_count b (u32_at b 8))
counted_same a b long h is =
    let list : AgreeOn a b 0 (12 + 4 * u32_at a 8) = subst (AgreeOn a b 0) (collection_end a is) h in
    let count : u32_at a 8 ≡ u32_at b 8 = u32_same a b 0 (12 + 4 * u32_at a 8) 8 list (omega arith) (omega arith) in
    let counted = collection_same a b (u32_at a 8) long list in
    record { same = counted.same ∙ ap (collection_count b) count; holds = listed (collection_count a (u32_at a 8)) counted.holds }
  where
    listed : (r : Result ℕ SfntRefusal) → IfOk r (λ m. m ≡ u32_at a 8) → IfOk r (IsListed a)
    listed (Ok n) e = λ _. e
    listed (Err refusal) e = tt

pub faces_same : (a b : List ℕ) → length a ≡ length b → AgreeOn a b 0 (head_end a) → AreSameReadings (IsListed a) (face_count a) (face_count b)
faces_same a b long h =
    let kind : u32_at a 0 ≡ u32_at b 0 = file_kind_same a b h in
    test_same (IsListed a) (is_compressed (u32_at a 0)) (is_compressed (u32_at b 0)) _ _ _ _ (ap is_compressed kind) (λ _. both_refused (IsListed a) _) (λ _.
    test_same (IsListed a) (nat_lt (length a) 12) (nat_lt (length b) 12) _ _ _ _ (ap (λ l. nat_lt l 12) long) (λ _. both_ended (IsListed a) a b long) (λ _.
    test_same (IsListed a) (u32_at a 0 == collection_kind) (u32_at b 0 == collection_kind) _ _ _ _ (ap (λ n. n == collection_kind) kind)
    (counted_same a b long h) (λ other. record { same = refl; holds = λ is. absurd (bool_clash other is) })))
  where
    bool_clash : {c : Bool} → c ≡ false → c ≡ true → ⊥
    bool_clash e f = absurd cc

place-step : (a b : List ℕ) (face n : ℕ) (c : Bool) → is_collection a ≡ c → AgreeOn a b 0 (head_end a) → IsListed a n → face < n →
    cond c (u32_at a (12 + 4 * face)) 0 ≡ cond c (u32_at b (12 + 4 * face)) 0
place-step a b face n false is h listed less = refl
place-step a b face n true is h listed less =
    let end : head_end a ≡ 12 + 4 * u32_at a 8 = collection_end a is in
    let all : n ≡ u32_at a 8 = listed is in
    u32_same a b 0 (head_end a) (12 + 4 * face) h (omega arith) (omega (arith, end, all, less))

pub place_same : (a b : List ℕ) (face n : ℕ) → AgreeOn a b 0 (head_end a) → IsListed a n → face < n → face_place a face ≡ face_place b face
place_same a b face n h listed less =
    place-step a b face n (is_collection a) refl h listed less ∙ ap (λ kind. cond (kind == collection_kind) (u32_at b (12 + 4 * face)) 0) (file_kind_same a b h)

-- ---- the directory

pub directory_same : (a b : List ℕ) (place : ℕ) → AgreeOnDirectory a b place → AreSameReadings (λ directory. directory ≡ face_directory a place) (directory_at a place) (directory_at b place)
directory_same a b place h =
    let kind : u32_at a place ≡ u32_at b place = u32_same a b place (directory_end (face_directory a place)) place h.entries (omega arith) (omega arith) in
    let count : u16_at a (place + 4) ≡ u16_at b (place + 4) = u16_same a b place (directory_end (face_directory a place)) (place + 4) h.entries (omega arith) (omega arith) in
    test_same _ (not (is_face_kind (u32_at a place))) (not (is_face_kind (u32_at b place))) _ _ _ _ (ap (λ n. not (is_face_kind n)) kind) (λ _. both_refused _ _) (λ _.
    whole_same count)
  where
    counted : (n : ℕ) → u16_at a (place + 4) ≡ n → AreSameReadings (λ directory. directory ≡ face_directory a place) (whole_directory a (place + 12) n) (whole_directory b (place + 12) n)
    counted n is =
        test_same _ (nat_lt (length a) ((place + 12) + 16 * n)) (nat_lt (length b) ((place + 12) + 16 * n)) _ _ _ _ (ap (λ l. nat_lt l ((place + 12) + 16 * n)) h.lengths)
        (λ _. both_ended _ a b h.lengths) (λ _. record { same = refl; holds = ap (λ (n : ℕ). record { first = place + 12; count = n }) (sym is) })

    whole_same : u16_at a (place + 4) ≡ u16_at b (place + 4) → AreSameReadings (λ directory. directory ≡ face_directory a place) (whole_directory a (place + 12) (u16_at a (place + 4))) (whole_directory b (place + 12) (u16_at b (place + 4)))
    whole_same count = subst (λ (n : ℕ). AreSameReadings (λ directory. directory ≡ face_directory a place) (whole_directory a (place + 12) (u16_at a (place + 4))) (whole_directory b (place + 12) n)) count (counted (u16_at a (place + 4)) refl)

-- ---- its tables

is_table_same : (a b : List ℕ) (from to name entry : ℕ) → length a ≡ length b → AgreeOn a b from to → from ≤ entry → entry + 16 ≤ to → is_table a name entry ≡ is_table b name entry
is_table_same a b from to name entry long h low high =
    let kind : u32_at a entry ≡ u32_at b entry = u32_same a b from to entry h low (omega arith) in
    let place : u32_at a (entry + 8) ≡ u32_at b (entry + 8) = u32_same a b from to (entry + 8) h (omega arith) (omega arith) in
    let size : u32_at a (entry + 12) ≡ u32_at b (entry + 12) = u32_same a b from to (entry + 12) h (omega arith) (omega arith) in
    cc

table_at_same : (a b : List ℕ) (from to entry : ℕ) → AgreeOn a b from to → from ≤ entry → entry + 16 ≤ to → table_at a entry ≡ table_at b entry
table_at_same a b from to entry h low high =
    let place : u32_at a (entry + 8) ≡ u32_at b (entry + 8) = u32_same a b from to (entry + 8) h (omega arith) (omega arith) in
    let size : u32_at a (entry + 12) ≡ u32_at b (entry + 12) = u32_same a b from to (entry + 12) h (omega arith) (omega arith) in
    cc

table_from_same : (a b : List ℕ) (from to name entry n : ℕ) → length a ≡ length b → AgreeOn a b from to → from ≤ entry → entry + 16 * n ≤ to → table_from a name entry n ≡ table_from b name entry n
table_from_same a b from to name entry zero long h low high = refl
table_from_same a b from to name entry (suc n) long h low high =
    if_same (is_table a name entry) (is_table b name entry) (is_table_same a b from to name entry long h low (omega arith))
    (λ _. ap Some (table_at_same a b from to entry h low (omega arith)))
    (λ _. table_from_same a b from to name (entry + 16) n long h (omega arith) (omega arith))

pub named_same : (a b : List ℕ) (place name : ℕ) → AgreeOnDirectory a b place → table_named a (face_directory a place) name ≡ table_named b (face_directory a place) name
named_same a b place name h =
    table_from_same a b place (directory_end (face_directory a place)) name (place + 12) (u16_at a (place + 4)) h.lengths h.entries (omega arith) (omega arith)

-- A table on which they agree, of at least so many bytes.
abbrev pub AgreeOnLong : List ℕ → List ℕ → ℕ → Table → Type 0
AgreeOnLong a b least table = AgreeOnTable a b table × (least ≤ table.size)

pub long_agrees : (a b : List ℕ) (least : ℕ) (o : Option Table) → IfSome o (AgreeOnTable a b) → IfSome (unless_short least o) (AgreeOnLong a b least)
long_agrees a b least None h = tt
long_agrees a b least (Some table) h = either (nat_lt table.size least) refl
  where
    either : (c : Bool) → nat_lt table.size least ≡ c → IfSome (cond c None (Some table)) (AgreeOnLong a b least)
    either true e = tt
    either false e = (h, ltb-false table.size least e)

needed_or_same : (a b : List ℕ) (end : ℕ) (tag : Tag) (o : Option Table) → IfSome o (AgreeOnTable a b) → AreSameReadings (AgreeOnLong a b (least_size tag)) (needed_or end tag o) (needed_or end tag o)
needed_or_same a b end tag None h = both_refused _ _
needed_or_same a b end tag (Some table) h =
    test_same _ (nat_lt table.size (least_size tag)) (nat_lt table.size (least_size tag)) _ _ _ _ refl (λ _. both_refused _ _) (λ long. record { same = refl; holds = (h, ltb-false table.size (least_size tag) long) })

needed_same : (a b : List ℕ) (place : ℕ) (tag : Tag) → AgreeOnDirectory a b place →
    AreSameReadings (AgreeOnLong a b (least_size tag)) (needed_table a (face_directory a place) tag) (needed_table b (face_directory a place) tag)
needed_same a b place tag h =
    subst (λ (o : Option Table). AreSameReadings (AgreeOnLong a b (least_size tag)) (needed_table a (face_directory a place) tag) (needed_or (directory_end (face_directory a place)) tag o))
    (named_same a b place (name_of tag) h) (needed_or_same a b (directory_end (face_directory a place)) tag (table_named a (face_directory a place) (name_of tag)) (h.needed tag))

pub post_script_same : (a b : List ℕ) (place : ℕ) → AgreeOnDirectory a b place → is_post_script a (face_directory a place) ≡ is_post_script b (face_directory a place)
post_script_same a b place h =
    ap (λ o. not (is_some o) && is_some (table_named a (face_directory a place) cff_name)) (named_same a b place (name_of Glyf) h)
    ∙ ap (λ o. not (is_some (table_named b (face_directory a place) (name_of Glyf))) && is_some o) (named_same a b place cff_name h)

second_version_same : (a b : List ℕ) (place : ℕ) → AgreeOnDirectory a b place → is_second_version a (face_directory a place) ≡ is_second_version b (face_directory a place)
second_version_same a b place h =
    let directory = face_directory a place in
    ap (λ o. not (is_some o) && not (is_some (table_named a directory cff_name)) && is_some (table_named a directory cff2_name)) (named_same a b place (name_of Glyf) h)
    ∙ (ap (λ o. not (is_some (table_named b directory (name_of Glyf))) && not (is_some o) && is_some (table_named a directory cff2_name)) (named_same a b place cff_name h)
    ∙ ap (λ o. not (is_some (table_named b directory (name_of Glyf))) && not (is_some (table_named b directory cff_name)) && is_some o) (named_same a b place cff2_name h))

-- ---- outlines

-- They agree on what outlines are drawn from.
abbrev pub AgreeOnOutlines : List ℕ → List ℕ → Outlines → Type 0
AgreeOnOutlines a b (TrueTypeOutlines loca glyf) = AgreeOnLong a b 0 loca × AgreeOnLong a b 0 glyf
AgreeOnOutlines a b (PostScriptOutlines font) = IsWholeFont a b font

true_type_same : (a b : List ℕ) (place : ℕ) → AgreeOnDirectory a b place →
    AreSameReadings (AgreeOnOutlines a b) (true_type_outlines a (face_directory a place)) (true_type_outlines b (face_directory a place))
true_type_same a b place h =
    then_same (AgreeOnLong a b 0) (AgreeOnOutlines a b) _ _ _ _ (needed_same a b place Loca h) (λ loca loca_agrees.
    then_same (AgreeOnLong a b 0) (AgreeOnOutlines a b) _ _ _ _ (needed_same a b place Glyf h) (λ glyf glyf_agrees. record { same = refl; holds = (loca_agrees, glyf_agrees) }))

whole_font : (a b : List ℕ) (from to : ℕ) (font : CffFont) → AgreeOn a b from to → IsFontFrom from to font → IsWholeFont a b font
whole_font a b from to font h is = record { agree = rw (is.place, is.stop) h; is = subst (λ p. IsFontFrom p font.stop font) (sym is.place) (subst (λ t. IsFontFrom from t font) (sym is.stop) is) }

cff_read_same : (a b : List ℕ) (from to : ℕ) (r s : Result CffFont CffRefusal) → AgreeOn a b from to → AreFound (IsFontFrom from to) r s → AreSameReadings (AgreeOnOutlines a b) (outlines_read r) (outlines_read s)
cff_read_same a b from to (Ok font) s h both = record { same = ap outlines_read both.same; holds = whole_font a b from to font h both.holds }
cff_read_same a b from to (Err refusal) s h both = record { same = ap outlines_read both.same; holds = tt }

by_same : (a b : List ℕ) (place : ℕ) (glyf cff : Option Table) → AgreeOnDirectory a b place → IfSome cff (AgreeOnTable a b) →
    AreSameReadings (AgreeOnOutlines a b) (outlines_by a (face_directory a place) glyf cff) (outlines_by b (face_directory a place) glyf cff)
by_same a b place None (Some cff) h agrees = cff_read_same a b cff.place (table_end cff) _ _ agrees (cff_both a b (table_span cff) agrees)
by_same a b place None None h agrees = true_type_same a b place h
by_same a b place (Some glyf) None h agrees = true_type_same a b place h
by_same a b place (Some glyf) (Some cff) h agrees = true_type_same a b place h

outlines_same : (a b : List ℕ) (place : ℕ) → AgreeOnDirectory a b place → AreSameReadings (AgreeOnOutlines a b) (outlines_of a (face_directory a place)) (outlines_of b (face_directory a place))
outlines_same a b place h =
    let directory = face_directory a place in
    let by = by_same a b place (table_named a directory (name_of Glyf)) (table_named a directory cff_name) h h.outlines in
    record {
      same = by.same ∙ (ap (λ o. outlines_by b directory o (table_named a directory cff_name)) (named_same a b place (name_of Glyf) h)
          ∙ ap (outlines_by b directory (table_named b directory (name_of Glyf))) (named_same a b place cff_name h));
      holds = by.holds;
    }

-- They agree on the tables of a font.
pub record AgreeOnTables (a b : List ℕ) (tables : Tables) : Type 0 where
  pub head : AgreeOnLong a b 54 tables.head
  pub maxp : AgreeOnLong a b 6 tables.maxp
  pub hhea : AgreeOnLong a b 36 tables.hhea
  pub hmtx : AgreeOnLong a b 0 tables.hmtx
  pub outlines : AgreeOnOutlines a b tables.outlines
  pub cmap : AgreeOnLong a b 4 tables.cmap

pub tables_same : (a b : List ℕ) (place : ℕ) → AgreeOnDirectory a b place → AreSameReadings (AgreeOnTables a b) (tables_of a (face_directory a place)) (tables_of b (face_directory a place))
tables_same a b place h =
    test_same _ (is_second_version a (face_directory a place)) (is_second_version b (face_directory a place)) _ _ _ _ (second_version_same a b place h) (λ _. both_refused _ _) (λ _.
    then_same (AgreeOnLong a b 54) (AgreeOnTables a b) _ _ _ _ (needed_same a b place Head h) (λ head head_agrees.
    then_same (AgreeOnLong a b 6) (AgreeOnTables a b) _ _ _ _ (needed_same a b place Maxp h) (λ maxp maxp_agrees.
    then_same (AgreeOnLong a b 36) (AgreeOnTables a b) _ _ _ _ (needed_same a b place Hhea h) (λ hhea hhea_agrees.
    then_same (AgreeOnLong a b 0) (AgreeOnTables a b) _ _ _ _ (needed_same a b place Hmtx h) (λ hmtx hmtx_agrees.
    then_same (AgreeOnOutlines a b) (AgreeOnTables a b) _ _ _ _ (outlines_same a b place h) (λ outlines outlines_agree.
    then_same (AgreeOnLong a b 4) (AgreeOnTables a b) _ _ _ _ (needed_same a b place Cmap h) (λ cmap cmap_agrees.
    record { same = refl; holds = record { head = head_agrees; maxp = maxp_agrees; hhea = hhea_agrees; hmtx = hmtx_agrees; outlines = outlines_agree; cmap = cmap_agrees } })))))))
