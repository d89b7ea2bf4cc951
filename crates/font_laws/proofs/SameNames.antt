-- Files that agree on the table of names have the same names.
use Rattle.std.proofs.Common.{◌≡◌, ℕ, zero, suc, ◌+◌, ◌*◌, ◌/◌, ◌≤◌, List, [], ◌∷◌, map, take, Bool, true, false, cond, ◌&&◌, Option, Some, None, refl, ap, sym, ◌∙◌, arith}
use Rattle.std.specs.Prelude.{nat_le, ◌==◌, IfSome}
use Rattle.std.specs.List.{range_with_len}
use Rattle.std.proofs.lemmas.Bool.{and_parts, leb-true}
use Rattle.sfnt_font.specs.declared.directory.Table.{Table}
use Rattle.font_bytes.specs.Bytes.{u8_at, u16_at}
use Rattle.sfnt_font.specs.Directory.{is_post_script, table_end, table_named, unless_short}
use Rattle.sfnt_font.specs.Names.{names_name, least_names, max_names, family_kind, name_rank, text_place, is_whole_name, is_name, records_from, mac_character, narrow_unit, wide_unit, narrow_units, wide_units, name_units, spelled, record_name, ranked_names, whole_kind, names_or_none, font_names}
use Rattle.sfnt_font.specs.Laws.{face_directory}
use Rattle.font_laws.specs.Laws.{AgreeOn, AgreeOnDirectory}
use Rattle.font_laws.proofs.Agreed.{u8_same, u16_same, and_same}
use Rattle.font_laws.proofs.SameTables.{AgreeOnLong, long_agrees, named_same, post_script_same}

-- where the text of a record is
text_place_same : (a b : List ℕ) (names : Table) (at : ℕ) → AgreeOnLong a b 6 names → names.place ≤ at → at + 12 ≤ table_end names → text_place a names at ≡ text_place b names at
text_place_same a b names at (h, long) low room =
    let texts : u16_at a (names.place + 4) ≡ u16_at b (names.place + 4) = u16_same a b names.place (table_end names) (names.place + 4) h (omega arith) (omega (arith, long)) in
    let text : u16_at a (at + 10) ≡ u16_at b (at + 10) = u16_same a b names.place (table_end names) (at + 10) h (omega arith) (omega (arith, room)) in
    ap (λ n. names.place + n + u16_at a (at + 10)) texts ∙ ap (λ n. names.place + u16_at b (names.place + 4) + n) text

whole_name_same : (a b : List ℕ) (names : Table) (at : ℕ) → AgreeOnLong a b 6 names → names.place ≤ at → is_whole_name a names at ≡ is_whole_name b names at
whole_name_same a b names at (h, long) low =
    and_same (nat_le (at + 12) (table_end names)) (nat_le (text_place a names at + u16_at a (at + 8)) (table_end names)) (nat_le (text_place b names at + u16_at b (at + 8)) (table_end names)) (λ inside.
    let room : at + 12 ≤ table_end names = leb-true (at + 12) (table_end names) inside in
    let text : text_place a names at ≡ text_place b names at = text_place_same a b names at (h, long) low room in
    let size : u16_at a (at + 8) ≡ u16_at b (at + 8) = u16_same a b names.place (table_end names) (at + 8) h (omega arith) (omega (arith, room)) in
    ap (λ n. nat_le (n + u16_at a (at + 8)) (table_end names)) text ∙ ap (λ n. nat_le (text_place b names at + n) (table_end names)) size)

-- a record past the table is none
past_none : (kind rank whole : Bool) → whole ≡ false → (kind && (rank && whole)) ≡ false
past_none true true whole e = e
past_none true false whole e = refl
past_none false rank whole e = refl

name_same : (a b : List ℕ) (names : Table) (kind rank at : ℕ) → AgreeOnLong a b 6 names → names.place ≤ at → is_name a names kind rank at ≡ is_name b names kind rank at
name_same a b names kind rank at (h, long) low = either (nat_le (at + 12) (table_end names)) refl
  where
    same_whole : is_whole_name a names at ≡ is_whole_name b names at
    same_whole = whole_name_same a b names at (h, long) low

    either : (c : Bool) → nat_le (at + 12) (table_end names) ≡ c → is_name a names kind rank at ≡ is_name b names kind rank at
    either true inside =
        let room : at + 12 ≤ table_end names = leb-true (at + 12) (table_end names) inside in
        let platform : u16_at a at ≡ u16_at b at = u16_same a b names.place (table_end names) at h low (omega (arith, room)) in
        let encoding : u16_at a (at + 2) ≡ u16_at b (at + 2) = u16_same a b names.place (table_end names) (at + 2) h (omega arith) (omega (arith, room)) in
        let id : u16_at a (at + 6) ≡ u16_at b (at + 6) = u16_same a b names.place (table_end names) (at + 6) h (omega arith) (omega (arith, room)) in
        ap (λ n. (n == kind) && ((name_rank (u16_at a at) (u16_at a (at + 2)) == rank) && is_whole_name a names at)) id
        ∙ (ap (λ n. (u16_at b (at + 6) == kind) && ((name_rank n (u16_at a (at + 2)) == rank) && is_whole_name a names at)) platform
        ∙ (ap (λ n. (u16_at b (at + 6) == kind) && ((name_rank (u16_at b at) n == rank) && is_whole_name a names at)) encoding
        ∙ ap (λ whole. (u16_at b (at + 6) == kind) && ((name_rank (u16_at b at) (u16_at b (at + 2)) == rank) && whole)) same_whole))
    either false past =
        past_none (u16_at a (at + 6) == kind) (name_rank (u16_at a at) (u16_at a (at + 2)) == rank) (is_whole_name a names at) (ap (λ c. c && nat_le (text_place a names at + u16_at a (at + 8)) (table_end names)) past)
        ∙ sym (past_none (u16_at b (at + 6) == kind) (name_rank (u16_at b at) (u16_at b (at + 2)) == rank) (is_whole_name b names at) (ap (λ c. c && nat_le (text_place b names at + u16_at b (at + 8)) (table_end names)) past))

-- a record that lies in the table, as does its text
abbrev IsInNames : List ℕ → Table → ℕ → Type 0
IsInNames bytes names at = (names.place ≤ at) × ((at + 12 ≤ table_end names) × (text_place bytes names at + u16_at bytes (at + 8) ≤ table_end names))

name_in_table : (bytes : List ℕ) (names : Table) (kind rank at : ℕ) → names.place ≤ at → is_name bytes names kind rank at ≡ true → IsInNames bytes names at
name_in_table bytes names kind rank at low is =
    let later = (and_parts (u16_at bytes (at + 6) == kind) ((name_rank (u16_at bytes at) (u16_at bytes (at + 2)) == rank) && is_whole_name bytes names at) is).1 in
    let whole = (and_parts (name_rank (u16_at bytes at) (u16_at bytes (at + 2)) == rank) (is_whole_name bytes names at) later).1 in
    let parts = and_parts (nat_le (at + 12) (table_end names)) (nat_le (text_place bytes names at + u16_at bytes (at + 8)) (table_end names)) whole in
    (low, (leb-true (at + 12) (table_end names) parts.0, leb-true (text_place bytes names at + u16_at bytes (at + 8)) (table_end names) parts.1))

-- ---- the text of a record

narrow_units_same : (a b : List ℕ) (from to at first n : ℕ) → AgreeOn a b from to → from ≤ at → at + (first + n) ≤ to → map (narrow_unit a at) (range_with_len first n) ≡ map (narrow_unit b at) (range_with_len first n)
narrow_units_same a b from to at first zero h low room = refl
narrow_units_same a b from to at first (suc n) h low room =
    let byte : u8_at a (at + first) ≡ u8_at b (at + first) = u8_same a b from to (at + first) h (omega arith) (omega arith) in
    ap (λ unit. mac_character unit ∷ map (narrow_unit a at) (range_with_len (first + 1) n)) byte
    ∙ ap (λ units. mac_character (u8_at b (at + first)) ∷ units) (narrow_units_same a b from to at (first + 1) n h low (omega arith))

wide_units_same : (a b : List ℕ) (from to at first n : ℕ) → AgreeOn a b from to → from ≤ at → at + 2 * (first + n) ≤ to → map (wide_unit a at) (range_with_len first n) ≡ map (wide_unit b at) (range_with_len first n)
wide_units_same a b from to at first zero h low room = refl
wide_units_same a b from to at first (suc n) h low room =
    let unit : u16_at a (at + 2 * first) ≡ u16_at b (at + 2 * first) = u16_same a b from to (at + 2 * first) h (omega arith) (omega arith) in
    ap (λ unit. unit ∷ map (wide_unit a at) (range_with_len (first + 1) n)) unit
    ∙ ap (λ units. u16_at b (at + 2 * first) ∷ units) (wide_units_same a b from to at (first + 1) n h low (omega arith))

units-step : (a b : List ℕ) (from to text size : ℕ) (c : Bool) → AgreeOn a b from to → from ≤ text → text + size ≤ to →
    cond c (narrow_units a text size) (wide_units a text (size / 2)) ≡ cond c (narrow_units b text size) (wide_units b text (size / 2))
units-step a b from to text size true h low room = narrow_units_same a b from to text 0 size h low (omega arith)
units-step a b from to text size false h low room = wide_units_same a b from to text 0 (size / 2) h low (omega arith)

units_same : (a b : List ℕ) (names : Table) (at : ℕ) → AgreeOnLong a b 6 names → IsInNames a names at → name_units a names at ≡ name_units b names at
units_same a b names at (h, long) (low, (room, whole)) =
    let platform : u16_at a at ≡ u16_at b at = u16_same a b names.place (table_end names) at h low (omega (arith, room)) in
    let size : u16_at a (at + 8) ≡ u16_at b (at + 8) = u16_same a b names.place (table_end names) (at + 8) h (omega arith) (omega (arith, room)) in
    let text : text_place a names at ≡ text_place b names at = text_place_same a b names at (h, long) low room in
    units-step a b names.place (table_end names) (text_place a names at) (u16_at a (at + 8)) (u16_at a at == 1) h (omega arith) whole
    ∙ (ap (λ n. cond (n == 1) (narrow_units b (text_place a names at) (u16_at a (at + 8))) (wide_units b (text_place a names at) (u16_at a (at + 8) / 2))) platform
    ∙ (ap (λ n. cond (u16_at b at == 1) (narrow_units b n (u16_at a (at + 8))) (wide_units b n (u16_at a (at + 8) / 2))) text
    ∙ ap (λ n. cond (u16_at b at == 1) (narrow_units b (text_place b names at) n) (wide_units b (text_place b names at) (n / 2))) size))

-- ---- the names of a table

record_same : (a b : List ℕ) (names : Table) (kind rank at : ℕ) → AgreeOnLong a b 6 names → names.place ≤ at → is_name a names kind rank at ≡ true → record_name a names at ≡ record_name b names at
record_same a b names kind rank at h low is = ap spelled (units_same a b names at h (name_in_table a names kind rank at low is))

names-step : (f g : ℕ → List ℕ) (at m : ℕ) (c d : Bool) (rs ss : List ℕ) → c ≡ d → (c ≡ true → f at ≡ g at) → ((m : ℕ) → map f (take m rs) ≡ map g (take m ss)) →
    map f (take m (cond c (at ∷ rs) rs)) ≡ map g (take m (cond d (at ∷ ss) ss))
names-step f g at zero true true rs ss e same rest = refl
names-step f g at (suc m) true true rs ss e same rest = ap (λ first. first ∷ map f (take m rs)) (same refl) ∙ ap (λ more. g at ∷ more) (rest m)
names-step f g at m false false rs ss e same rest = rest m
names-step f g at m true false rs ss e same rest = absurd cc
names-step f g at m false true rs ss e same rest = absurd cc

none_taken : (f g : ℕ → List ℕ) (m : ℕ) → map f (take m []) ≡ map g (take m [])
none_taken f g zero = refl
none_taken f g (suc m) = refl

from_same : (a b : List ℕ) (names : Table) (kind rank at n m : ℕ) → AgreeOnLong a b 6 names → names.place ≤ at →
    map (record_name a names) (take m (records_from a names kind rank at n)) ≡ map (record_name b names) (take m (records_from b names kind rank at n))
from_same a b names kind rank at zero m h low = none_taken (record_name a names) (record_name b names) m
from_same a b names kind rank at (suc n) m h low =
    names-step (record_name a names) (record_name b names) at m (is_name a names kind rank at) (is_name b names kind rank at) (records_from a names kind rank (at + 12) n) (records_from b names kind rank (at + 12) n)
    (name_same a b names kind rank at h low) (record_same a b names kind rank at h low) (λ m. from_same a b names kind rank (at + 12) n m h (omega arith))

names_same : (a b : List ℕ) (names : Table) (kind rank most : ℕ) → AgreeOnLong a b 6 names → ranked_names a names kind rank most ≡ ranked_names b names kind rank most
names_same a b names kind rank most (h, long) =
    let count : u16_at a (names.place + 2) ≡ u16_at b (names.place + 2) = u16_same a b names.place (table_end names) (names.place + 2) h (omega arith) (omega (arith, long)) in
    from_same a b names kind rank (names.place + 6) (u16_at a (names.place + 2)) most (h, long) (omega arith)
    ∙ ap (λ n. map (record_name b names) (take most (records_from b names kind rank (names.place + 6) n))) count

table_names_same : (a b : List ℕ) (is_post_script : Bool) (o : Option Table) → IfSome o (AgreeOnLong a b 6) → names_or_none a is_post_script o ≡ names_or_none b is_post_script o
table_names_same a b is_post_script None h = refl
table_names_same a b is_post_script (Some names) h =
    let kind = whole_kind is_post_script in
    let families : ranked_names a names family_kind 0 max_names ≡ ranked_names b names family_kind 0 max_names = names_same a b names family_kind 0 max_names h in
    let others : ranked_names a names family_kind 1 1 ≡ ranked_names b names family_kind 1 1 = names_same a b names family_kind 1 1 h in
    let full : ranked_names a names kind 0 max_names ≡ ranked_names b names kind 0 max_names = names_same a b names kind 0 max_names h in
    rw (families, others, full)

pub font_names_same : (a b : List ℕ) (place : ℕ) → AgreeOnDirectory a b place → font_names a (face_directory a place) ≡ font_names b (face_directory a place)
font_names_same a b place h =
    let directory = face_directory a place in
    let named = unless_short least_names (table_named a directory names_name) in
    table_names_same a b (is_post_script a directory) named (long_agrees a b least_names (table_named a directory names_name) h.names)
    ∙ (ap (λ t. names_or_none b t named) (post_script_same a b place h)
    ∙ ap (λ o. names_or_none b (is_post_script b directory) (unless_short least_names o)) (named_same a b place names_name h))
