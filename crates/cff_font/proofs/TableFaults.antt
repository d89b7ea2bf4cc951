-- The fault of a table is at one of its bytes, or at its end.
use Rattle.std.proofs.Common.{◌≡◌, ℕ, ◌+◌, ◌*◌, ◌≤◌, true, false, Bool, cond, List, Option, Some, None, ℤ, pos, refl, arith}
use Rattle.std.specs.Prelude.{◌&&◌, ◌||◌, ◌==◌, not, nat_lt, nat_le, unsigned_abs, int_le, IfSome, IfOk, Result, Ok, Err}
use Rattle.std.proofs.lemmas.Bool.Decides.{nat_tests}
use Rattle.font_bytes.specs.Bytes.{u8_at, u16_at}
use Rattle.cff_font.specs.declared.cause.CffRefusal.{CffRefusal}
use Rattle.cff_font.specs.declared.dicts.Operands.{Operands}
use Rattle.cff_font.specs.declared.indexes.Index.{Index}
use Rattle.cff_font.specs.declared.tokens.Span.{Span}
use Rattle.cff_font.specs.Dicts.{operands_of}
use Rattle.cff_font.specs.Fonts.{cff_of, dict_or, dicts_at, dicts_code, font_behind, font_of_dict, glyphs_code, index_or, is_type_2, needed_index, needed_place, place_by_offset, place_by, place_named, place_or, select_code, then_found, type_code}
use Rattle.cff_font.specs.Indexes.{index_at, index_if_whole, index_of_size, index_with, item_at, item_between, no_items, offset_at}
use Rattle.cff_font.specs.Laws.{IsFaultIn}

-- what a test decides
if_tested : {X : Type 0} (b : Bool) (o p : Option X) (P : X → Type 0) → (b ≡ true → IfSome o P) → (b ≡ false → IfSome p P) → IfSome (cond b o p) P
if_tested true o p P ho hp = ho refl
if_tested false o p P ho hp = hp refl

in_tested : {T : Type 0} (table : Span) (b : Bool) (o p : Result T CffRefusal) → (b ≡ true → IsFaultIn table o) → (b ≡ false → IsFaultIn table p) → IsFaultIn table (cond b o p)
in_tested table true o p ho hp = ho refl
in_tested table false o p ho hp = hp refl

in_found : {T U : Type 0} (table : Span) (read : Result T CffRefusal) (next : T → Result U CffRefusal) (P : T → Type 0) → IsFaultIn table read → IfOk read P → ((x : T) → P x → IsFaultIn table (next x)) → IsFaultIn table (then_found read next)
in_found table (Ok x) next P h k more = more x k
in_found table (Err refusal) next P h k more = h

-- An INDEX from a place on ends before its table does.
record IsIndexFrom (at stop : ℕ) (index : Index) : Type 0 where
  base : at ≤ index.base
  ends : index.base ≤ index.end
  within : index.end ≤ stop

abbrev IsPlaceIn : Span → ℕ → Type 0
IsPlaceIn table at = (table.from ≤ at) × (at ≤ table.to)

and_left : (a b : Bool) → (a && b) ≡ true → a ≡ true
and_left true b h = refl
and_left false b h = h

and_right : (a b : Bool) → (a && b) ≡ true → b ≡ true
and_right true b h = h
and_right false b h = absurd cc

whole-from : (stop at : ℕ) (index : Index) → at ≤ index.base → IfSome (index_if_whole stop index) (IsIndexFrom at stop)
whole-from stop at index h =
    if_tested (nat_lt index.base index.end && nat_le index.end stop) (Some index) None (IsIndexFrom at stop)
    (λ is. let ends : nat_lt index.base index.end ≡ true = and_left (nat_lt index.base index.end) (nat_le index.end stop) is in
    let within : nat_le index.end stop ≡ true = and_right (nat_lt index.base index.end) (nat_le index.end stop) is in
    record { base = h; ends = grind (arith, nat_tests); within = grind (arith, nat_tests) })
    (λ is. tt)

more : (at s : ℕ) → at ≤ at + 2 + s
more at s = omega arith

index-from : (bytes : List ℕ) (stop at : ℕ) → IfSome (index_at bytes stop at) (IsIndexFrom at stop)
index-from bytes stop at =
    if_tested (nat_lt stop (at + 2)) None (cond (u16_at bytes at == 0) (Some (no_items (at + 2))) (index_of_size bytes stop at (u16_at bytes at) (u8_at bytes (at + 2)))) (IsIndexFrom at stop)
    (λ is. tt)
    (λ is. let within : at + 2 ≤ stop = grind (arith, nat_tests) in
    if_tested (u16_at bytes at == 0) (Some (no_items (at + 2))) (index_of_size bytes stop at (u16_at bytes at) (u8_at bytes (at + 2))) (IsIndexFrom at stop)
    (λ none. record { base = omega arith; ends = omega arith; within = within })
    (λ some. if_tested (nat_lt (u8_at bytes (at + 2)) 1 || nat_lt 4 (u8_at bytes (at + 2))) None (index_if_whole stop (index_with bytes at (u16_at bytes at) (u8_at bytes (at + 2)))) (IsIndexFrom at stop)
    (λ is. tt)
    (λ is. whole-from stop at (index_with bytes at (u16_at bytes at) (u8_at bytes (at + 2))) (more at (u8_at bytes (at + 2) * (u16_at bytes at + 1))))))

item-from : (bytes : List ℕ) (index : Index) (k : ℕ) → IfSome (item_at bytes index k) (λ item. (index.base ≤ item.from) × (item.from ≤ index.end))
item-from bytes index k =
    let P : Span → Type 0 = λ item. (index.base ≤ item.from) × (item.from ≤ index.end) in
    let from = offset_at bytes index.size (index.first + index.size * k) in
    let to = offset_at bytes index.size (index.first + index.size * (k + 1)) in
    if_tested (nat_lt k index.count) (item_between index from to) None P
    (λ is. if_tested (nat_le 1 from && (nat_le from to && nat_le (index.base + to) index.end)) (Some (record { from = index.base + from; to = index.base + to })) None P
    (λ whole. let rest : (nat_le from to && nat_le (index.base + to) index.end) ≡ true = and_right (nat_le 1 from) (nat_le from to && nat_le (index.base + to) index.end) whole in
    let ascends : nat_le from to ≡ true = and_left (nat_le from to) (nat_le (index.base + to) index.end) rest in
    let within : nat_le (index.base + to) index.end ≡ true = and_right (nat_le from to) (nat_le (index.base + to) index.end) rest in
    (omega arith, in_between index.base from to index.end ascends within))
    (λ broken. tt))
    (λ no. tt)
  where
    in_between : (base from to end : ℕ) → nat_le from to ≡ true → nat_le (base + to) end ≡ true → base + from ≤ end
    in_between base from to end a b = grind (arith, nat_tests)

-- ---- what is needed

needed-in : (bytes : List ℕ) (table : Span) (at : ℕ) → IsPlaceIn table at → IsFaultIn table (needed_index bytes table.to at) × IfOk (needed_index bytes table.to at) (IsIndexFrom at table.to)
needed-in bytes table at h = told (index_at bytes table.to at) (index-from bytes table.to at)
  where
    told : (index : Option Index) → IfSome index (IsIndexFrom at table.to) → IsFaultIn table (index_or at index) × IfOk (index_or at index) (IsIndexFrom at table.to)
    told None k = (h, tt)
    told (Some index) k = (tt, k)

behind-in : (table : Span) (offset : ℤ) → IfSome (place_by_offset table.to table.from offset) (IsPlaceIn table)
behind-in table offset =
    if_tested (int_le (pos 1) offset && nat_le (table.from + unsigned_abs offset) table.to) (Some (table.from + unsigned_abs offset)) None (IsPlaceIn table)
    (λ is. let within : nat_le (table.from + unsigned_abs offset) table.to ≡ true = and_right (int_le (pos 1) offset) (nat_le (table.from + unsigned_abs offset) table.to) is in
    (omega arith, ended (table.from + unsigned_abs offset) table.to within))
    (λ is. tt)
  where
    ended : (a b : ℕ) → nat_le a b ≡ true → a ≤ b
    ended a b h = grind (arith, nat_tests)

by-in : (table : Span) (operands : Option Operands) → IfSome (place_by table operands) (IsPlaceIn table)
by-in table None = tt
by-in table (Some operands) = behind-in table operands.last

place-in : (bytes : List ℕ) (table : Span) (top : Span) (code : ℕ) → IsPlaceIn table top.from → IsFaultIn table (needed_place bytes table top code) × IfOk (needed_place bytes table top code) (IsPlaceIn table)
place-in bytes table top code h = told (place_named bytes table top code) (by-in table (operands_of bytes top code))
  where
    told : (place : Option ℕ) → IfSome place (IsPlaceIn table) → IsFaultIn table (place_or top place) × IfOk (place_or top place) (IsPlaceIn table)
    told None k = (h, tt)
    told (Some at) k = (tt, k)

any_found : {T : Type 0} (read : Result T CffRefusal) → IfOk read (λ found. Unit {0})
any_found (Ok found) = tt
any_found (Err refusal) = tt

dicts-in : (bytes : List ℕ) (table : Span) (top : Span) (place : Option ℕ) → IsPlaceIn table top.from → IfSome place (IsPlaceIn table) → IsFaultIn table (dicts_at bytes table top place)
dicts-in bytes table top None h k = tt
dicts-in bytes table top (Some at) h k =
    let select = place-in bytes table top select_code h in
    in_found table (needed_index bytes table.to at) _ (λ index. Unit {0}) ((needed-in bytes table at k).0) (any_found (needed_index bytes table.to at)) (λ dicts _.
    in_found table (needed_place bytes table top select_code) _ (IsPlaceIn table) select.0 select.1 (λ found _. tt))

dict-in : (bytes : List ℕ) (table : Span) (globals : Index) (top : Span) → IsPlaceIn table top.from → IsFaultIn table (font_of_dict bytes table globals top)
dict-in bytes table globals top h =
    let glyphs = place-in bytes table top glyphs_code h in
    let dicts = place_named bytes table top dicts_code in
    in_tested table (not (is_type_2 (operands_of bytes top type_code))) _ _ (λ is. h) (λ is.
    in_found table (needed_place bytes table top glyphs_code) _ (IsPlaceIn table) glyphs.0 glyphs.1 (λ at ka.
    let index = needed-in bytes table at ka in
    in_found table (needed_index bytes table.to at) _ (IsIndexFrom at table.to) index.0 index.1 (λ found kf.
    in_found table (dicts_at bytes table top dicts) _ (λ found. Unit {0}) (dicts-in bytes table top dicts h (by-in table (operands_of bytes top dicts_code))) (any_found (dicts_at bytes table top dicts)) (λ found kd. tt))))

-- the fault of the Top DICT's INDEX is where that begins
top-in : (bytes : List ℕ) (table : Span) (at : ℕ) (tops : Index) → IsPlaceIn table at → IsIndexFrom at table.to tops
    → IsFaultIn table (dict_or at (item_at bytes tops 0)) × IfOk (dict_or at (item_at bytes tops 0)) (λ top. IsPlaceIn table top.from)
top-in bytes table at tops h k = told (item_at bytes tops 0) (item-from bytes tops 0)
  where
    told : (item : Option Span) → IfSome item (λ item. (tops.base ≤ item.from) × (item.from ≤ tops.end)) → IsFaultIn table (dict_or at item) × IfOk (dict_or at item) (λ top. IsPlaceIn table top.from)
    told None i = (h, tt)
    told (Some item) i = (tt, (omega (arith, h.0, k.base, i.0), omega (arith, i.1, k.within)))

behind-index : (table : Span) (at : ℕ) (index : Index) → IsPlaceIn table at → IsIndexFrom at table.to index → IsPlaceIn table index.end
behind-index table at index h k = (omega (arith, h.0, k.base, k.ends), k.within)

font-in : (bytes : List ℕ) (table : Span) (at : ℕ) → IsPlaceIn table at → IsFaultIn table (font_behind bytes table at)
font-in bytes table at h =
    let stop = table.to in
    let first = needed-in bytes table at h in
    in_found table (needed_index bytes stop at) _ (IsIndexFrom at stop) first.0 first.1 (λ names kn.
    let hn = behind-index table at names h kn in
    let second = needed-in bytes table names.end hn in
    in_found table (needed_index bytes stop names.end) _ (IsIndexFrom names.end stop) second.0 second.1 (λ tops kt.
    let ht = behind-index table names.end tops hn kt in
    let third = needed-in bytes table tops.end ht in
    in_found table (needed_index bytes stop tops.end) _ (IsIndexFrom tops.end stop) third.0 third.1 (λ strings ks.
    let hs = behind-index table tops.end strings ht ks in
    let fourth = needed-in bytes table strings.end hs in
    in_found table (needed_index bytes stop strings.end) _ (IsIndexFrom strings.end stop) fourth.0 fourth.1 (λ globals kg.
    let top = top-in bytes table names.end tops hn kt in
    in_found table (dict_or names.end (item_at bytes tops 0)) (font_of_dict bytes table globals) (λ top. IsPlaceIn table top.from) top.0 top.1 (λ top k. dict-in bytes table globals top k)))))

pub faults-in : (bytes : List ℕ) (table : Span) → table.from ≤ table.to → IsFaultIn table (cff_of bytes table)
faults-in bytes table h =
    let begin : IsPlaceIn table table.from = (omega arith, h) in
    let size = u8_at bytes (table.from + 2) in
    in_tested table (nat_lt table.to (table.from + 4)) _ _ (λ is. begin) (λ is.
    in_tested table (not (u8_at bytes table.from == 1)) _ _ (λ is. begin) (λ is.
    in_tested table (nat_lt table.to (table.from + size)) _ _ (λ is. begin) (λ is.
    font-in bytes table (table.from + size) (omega arith, within table.to (table.from + size) is))))
  where
    within : (to head : ℕ) → nat_lt to head ≡ false → head ≤ to
    within to head h = grind (arith, nat_tests)
