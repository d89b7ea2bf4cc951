-- Files that agree on a table of PostScript outlines have the same font in it, and the same contours of each glyph.
use Rattle.std.proofs.Common.{◌≡◌, ℕ, ◌+◌, ◌≤◌, List, Bool, true, false, cond, ◌&&◌, not, Option, Some, None, Result, Ok, Err, inr, ℤ, pos, refl, ap, ◌∙◌, arith}
use Rattle.std.specs.Prelude.{nat_lt, nat_le, ◌==◌, int_le, unsigned_abs, IfOk, IfSome}
use Rattle.std.proofs.lemmas.Bool.{ltb-false}
use Rattle.font_bytes.specs.Bytes.{u8_at}
use Rattle.cff_font.specs.declared.cause.CffRefusal.{CffRefusal}
use Rattle.cff_font.specs.declared.dicts.Operands.{Operands}
use Rattle.cff_font.specs.declared.indexes.Index.{Index}
use Rattle.cff_font.specs.declared.read.CffFont.{CffFont}
use Rattle.cff_font.specs.declared.read.FontDicts.{FontDicts}
use Rattle.cff_font.specs.declared.tokens.Span.{Span}
use Rattle.cff_font.specs.Dicts.{operands_of}
use Rattle.cff_font.specs.Fonts.{cff_of, dict_or, dicts_at, dicts_code, font_behind, font_of_dict, glyphs_code, index_or, is_type_2, needed_index, needed_place, place_by, place_by_offset, place_named, place_or, select_code, then_found, type_code}
use Rattle.cff_font.specs.Indexes.{index_at, item_at}
use Rattle.font_laws.specs.Laws.{AgreeOn}
use Rattle.font_laws.proofs.Agreed.{AreOne, u8_same}
use Rattle.font_laws.proofs.SameIndexes.{IsIndexFrom, IsSpanFrom, index_one, item_one, operands_same}

-- ---- readings

-- Two readings find one value, of which this holds, or one fault.
pub record AreFound {T : Type 0} (P : T → Type 0) (r s : Result T CffRefusal) : Type 0 where
  pub same : r ≡ s
  pub holds : IfOk r P

then_both : {T U : Type 0} (P : T → Type 0) (Q : U → Type 0) (r s : Result T CffRefusal) (f g : T → Result U CffRefusal) → AreFound P r s → ((x : T) → P x → AreFound Q (f x) (g x)) → AreFound Q (then_found r f) (then_found s g)
then_both P Q (Ok x) s f g h step = record { same = (step x h.holds).same ∙ ap (λ r. then_found r g) h.same; holds = (step x h.holds).holds }
then_both P Q (Err refusal) s f g h step = record { same = ap (λ r. then_found r g) h.same; holds = tt }

test_both : {T : Type 0} (P : T → Type 0) (b c : Bool) (x y u v : Result T CffRefusal) → b ≡ c → (b ≡ true → AreFound P x u) → (b ≡ false → AreFound P y v) → AreFound P (cond b x y) (cond c u v)
test_both P true true x y u v e h k = h refl
test_both P false false x y u v e h k = k refl
test_both P true false x y u v e h k = absurd cc
test_both P false true x y u v e h k = absurd cc

refused : {T : Type 0} (P : T → Type 0) (refusal : CffRefusal) → AreFound P (Err refusal) (Err refusal)
refused P refusal = record { same = refl; holds = tt }

index_found : (from to at : ℕ) (o p : Option Index) → AreOne (IsIndexFrom from to) o p → AreFound (IsIndexFrom from to) (index_or at o) (index_or at p)
index_found from to at None p one = record { same = ap (index_or at) one.same; holds = tt }
index_found from to at (Some index) p one = record { same = ap (index_or at) one.same; holds = one.holds }

dict_found : (from to at : ℕ) (o p : Option Span) → AreOne (IsSpanFrom from to) o p → AreFound (IsSpanFrom from to) (dict_or at o) (dict_or at p)
dict_found from to at None p one = record { same = ap (dict_or at) one.same; holds = tt }
dict_found from to at (Some dict) p one = record { same = ap (dict_or at) one.same; holds = one.holds }

place_found : (from : ℕ) (top : Span) (o p : Option ℕ) → AreOne (λ place. from ≤ place) o p → AreFound (λ place. from ≤ place) (place_or top o) (place_or top p)
place_found from top None p one = record { same = ap (place_or top) one.same; holds = tt }
place_found from top (Some place) p one = record { same = ap (place_or top) one.same; holds = one.holds }

-- ---- the font of a table

pub offset_low : (low stop from : ℕ) (offset : ℤ) → low ≤ from → IfSome (place_by_offset stop from offset) (λ place. low ≤ place)
offset_low low stop from offset h = either (int_le (pos 1) offset && nat_le (from + unsigned_abs offset) stop)
  where
    either : (c : Bool) → IfSome (cond c (Some (from + unsigned_abs offset)) None) (λ place. low ≤ place)
    either true = omega (arith, h)
    either false = tt

by_low : (low : ℕ) (table : Span) (o : Option Operands) → low ≤ table.from → IfSome (place_by table o) (λ place. low ≤ place)
by_low low table None h = tt
by_low low table (Some operands) h = offset_low low table.to table.from operands.last h

named_one : (a b : List ℕ) (table top : Span) (code : ℕ) → AgreeOn a b table.from table.to → IsSpanFrom table.from table.to top →
    AreOne (λ place. table.from ≤ place) (place_named a table top code) (place_named b table top code)
named_one a b table top code h is = record { same = ap (place_by table) (operands_same a b table.from table.to top code h is); holds = by_low table.from table (operands_of a top code) (omega arith) }

index_needed : (a b : List ℕ) (from to at : ℕ) → AgreeOn a b from to → from ≤ at → AreFound (IsIndexFrom from to) (needed_index a to at) (needed_index b to at)
index_needed a b from to at h low = index_found from to at (index_at a to at) (index_at b to at) (index_one a b from to at h low)

place_needed : (a b : List ℕ) (table top : Span) (code : ℕ) → AgreeOn a b table.from table.to → IsSpanFrom table.from table.to top →
    AreFound (λ place. table.from ≤ place) (needed_place a table top code) (needed_place b table top code)
place_needed a b table top code h is = place_found table.from top _ _ (named_one a b table top code h is)

-- the parts of a font lie where the files agree
pub record AreDictsFrom (from to : ℕ) (found : FontDicts) : Type 0 where
  pub dicts : IsIndexFrom from to found.dicts
  pub select : from ≤ found.select

pub record IsFontFrom (from to : ℕ) (font : CffFont) : Type 0 where
  pub place : font.place ≡ from
  pub stop : font.stop ≡ to
  pub globals : IsIndexFrom from to font.globals
  pub glyphs : IsIndexFrom from to font.glyphs
  pub top : IsSpanFrom from to font.top
  pub dicts : IfSome font.dicts (AreDictsFrom from to)

abbrev DictsFrom : Span → Option FontDicts → Type 0
DictsFrom table found = IfSome found (AreDictsFrom table.from table.to)

dicts_both : (a b : List ℕ) (table top : Span) (o : Option ℕ) → AgreeOn a b table.from table.to → IsSpanFrom table.from table.to top → IfSome o (λ place. table.from ≤ place) →
    AreFound (DictsFrom table) (dicts_at a table top o) (dicts_at b table top o)
dicts_both a b table top None h is low = record { same = refl; holds = tt }
dicts_both a b table top (Some at) h is low =
    then_both (IsIndexFrom table.from table.to) (DictsFrom table) _ _ _ _ (index_needed a b table.from table.to at h low) (λ dicts dicts_from.
    then_both (λ place. table.from ≤ place) (DictsFrom table) _ _ _ _ (place_needed a b table top select_code h is) (λ select select_low.
    record { same = refl; holds = record { dicts = dicts_from; select = select_low } }))

dicts_found : (a b : List ℕ) (table top : Span) → AgreeOn a b table.from table.to → IsSpanFrom table.from table.to top →
    AreFound (DictsFrom table) (dicts_at a table top (place_named a table top dicts_code)) (dicts_at b table top (place_named b table top dicts_code))
dicts_found a b table top h is =
    let one = named_one a b table top dicts_code h is in
    let both = dicts_both a b table top (place_named a table top dicts_code) h is one.holds in
    record { same = both.same ∙ ap (dicts_at b table top) one.same; holds = both.holds }

font_of_dict_both : (a b : List ℕ) (table : Span) (globals : Index) (top : Span) → AgreeOn a b table.from table.to → IsIndexFrom table.from table.to globals → IsSpanFrom table.from table.to top →
    AreFound (IsFontFrom table.from table.to) (font_of_dict a table globals top) (font_of_dict b table globals top)
font_of_dict_both a b table globals top h globals_from is =
    let P = IsFontFrom table.from table.to in
    test_both P (not (is_type_2 (operands_of a top type_code))) (not (is_type_2 (operands_of b top type_code))) _ _ _ _ (ap (λ o. not (is_type_2 o)) (operands_same a b table.from table.to top type_code h is)) (λ _. refused P _) (λ _.
    then_both (λ place. table.from ≤ place) P _ _ _ _ (place_needed a b table top glyphs_code h is) (λ at low.
    then_both (IsIndexFrom table.from table.to) P _ _ _ _ (index_needed a b table.from table.to at h low) (λ glyphs glyphs_from.
    then_both (DictsFrom table) P _ _ _ _ (dicts_found a b table top h is) (λ dicts dicts_from.
    record { same = refl; holds = record { place = refl; stop = refl; globals = globals_from; glyphs = glyphs_from; top = is; dicts = dicts_from } }))))

-- an INDEX ends behind its base, or where its count does
font_behind_both : (a b : List ℕ) (table : Span) (at : ℕ) → AgreeOn a b table.from table.to → table.from ≤ at → AreFound (IsFontFrom table.from table.to) (font_behind a table at) (font_behind b table at)
font_behind_both a b table at h low =
    let P = IsFontFrom table.from table.to in
    let Q = IsIndexFrom table.from table.to in
    then_both Q P _ _ _ _ (index_needed a b table.from table.to at h low) (λ names names_from.
    then_both Q P _ _ _ _ (index_needed a b table.from table.to names.end h names_from.behind) (λ tops tops_from.
    then_both Q P _ _ _ _ (index_needed a b table.from table.to tops.end h tops_from.behind) (λ strings strings_from.
    then_both Q P _ _ _ _ (index_needed a b table.from table.to strings.end h strings_from.behind) (λ globals globals_from.
    then_both (IsSpanFrom table.from table.to) P _ _ _ _ (dict_found table.from table.to names.end (item_at a tops 0) (item_at b tops 0) (item_one a b table.from table.to tops 0 h (inr tops_from))) (λ top top_from.
    font_of_dict_both a b table globals top h globals_from top_from)))))

pub cff_both : (a b : List ℕ) (table : Span) → AgreeOn a b table.from table.to → AreFound (IsFontFrom table.from table.to) (cff_of a table) (cff_of b table)
cff_both a b table h =
    let P = IsFontFrom table.from table.to in
    test_both P (nat_lt table.to (table.from + 4)) (nat_lt table.to (table.from + 4)) _ _ _ _ refl (λ _. refused P _) (λ fits.
    let room : table.from + 4 ≤ table.to = ltb-false table.to (table.from + 4) fits in
    let version = u8_same a b table.from table.to table.from h (omega arith) (omega (arith, room)) in
    let size = u8_same a b table.from table.to (table.from + 2) h (omega arith) (omega (arith, room)) in
    test_both P (not (u8_at a table.from == 1)) (not (u8_at b table.from == 1)) _ _ _ _ (ap (λ n. not (n == 1)) version) (λ _. refused P _) (λ _.
    test_both P (nat_lt table.to (table.from + u8_at a (table.from + 2))) (nat_lt table.to (table.from + u8_at b (table.from + 2))) _ _ _ _ (ap (λ n. nat_lt table.to (table.from + n)) size) (λ _. refused P _) (λ _.
    behind size)))
  where
    behind : u8_at a (table.from + 2) ≡ u8_at b (table.from + 2) →
        AreFound (IsFontFrom table.from table.to) (font_behind a table (table.from + u8_at a (table.from + 2))) (font_behind b table (table.from + u8_at b (table.from + 2)))
    behind size =
        let both = font_behind_both a b table (table.from + u8_at a (table.from + 2)) h (omega arith) in
        record { same = both.same ∙ ap (λ n. font_behind b table (table.from + n)) size; holds = both.holds }
