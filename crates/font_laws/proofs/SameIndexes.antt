-- Files that agree on a table of PostScript outlines have the same INDEXes, numbers and DICTs in it.
use Rattle.std.proofs.Common.{◌≡◌, ℕ, zero, suc, ◌+◌, ◌-◌, ◌*◌, ◌<◌, ◌≤◌, List, ◌∷◌, Bool, true, false, cond, ◌&&◌, ◌||◌, Option, Some, None, ◌⊎◌, inl, inr, ℤ, pos, neg_ℤ, refl, ap, sym, subst, ◌∙◌, arith}
use Rattle.std.specs.Prelude.{nat_lt, nat_le, ◌==◌, IfSome}
use Rattle.std.proofs.lemmas.Bool.{and_parts, or_parts, leb-true, leb-false, ltb-true, ltb-false}
use Rattle.std.proofs.lemmas.Nat.{mul-le}
use Rattle.font_bytes.specs.Bytes.{u8_at, u16_at, with_sign}
use Rattle.cff_font.specs.declared.indexes.Index.{Index}
use Rattle.cff_font.specs.declared.tokens.Span.{Span}
use Rattle.cff_font.specs.declared.tokens.Token.{Token}
use Rattle.cff_font.specs.declared.tokens.Token.TheVariants.{Number, Operator}
use Rattle.cff_font.specs.Dicts.{behind_real, dict_token, dict_token_of, dict_tokens, ends_real, no_operands, operands_in, operands_of, real_number, token_and}
use Rattle.cff_font.specs.Indexes.{ends_within, index_at, index_if_whole, index_of_size, index_with, item_at, item_between, offset_at}
use Rattle.cff_font.specs.Tokens.{behind_token, escape_base, number_before, operator_at, s32_at, two_byte_number, whole_number}
use Rattle.font_laws.specs.Laws.{AgreeOn}
use Rattle.font_laws.proofs.Agreed.{AreOne, none_is, map_one, test_one, u8_same, u16_same, u32_same, s16_same}

-- ---- INDEXes

-- Bytes that lie where the files agree.
pub record IsSpanFrom (from to : ℕ) (span : Span) : Type 0 where
  pub low : from ≤ span.from
  pub high : span.to ≤ to

-- An INDEX whose offsets and items do.
abbrev HasOffsets : ℕ → Index → Type 0
HasOffsets to index = (1 ≤ index.size) × (index.size ≤ 4) × (index.first + index.size * (index.count + 1) ≤ to)

pub record IsIndexFrom (from to : ℕ) (index : Index) : Type 0 where
  pub first : from ≤ index.first
  pub base : from ≤ index.base
  pub behind : from ≤ index.end
  pub end : index.end ≤ to
  pub offsets : (index.count ≡ 0) ⊎ HasOffsets to index

-- An INDEX that has no items, or such items.
abbrev pub IsItemsFrom : ℕ → ℕ → Index → Type 0
IsItemsFrom from to index = (index.count ≡ 0) ⊎ IsIndexFrom from to index

offset_same : (a b : List ℕ) (from to size i : ℕ) → AgreeOn a b from to → 1 ≤ size → size ≤ 4 → from ≤ i → i + size ≤ to → offset_at a size i ≡ offset_at b size i
offset_same a b from to zero i h some small low high = absurd (omega arith)
offset_same a b from to (suc zero) i h some small low high = u8_same a b from to i h low (omega arith)
offset_same a b from to (suc (suc zero)) i h some small low high = u16_same a b from to i h low (omega arith)
offset_same a b from to (suc (suc (suc zero))) i h some small low high =
    let first = u8_same a b from to i h low (omega arith) in
    let rest = u16_same a b from to (i + 1) h (omega arith) (omega arith) in
    rw (first, rest) refl
offset_same a b from to (suc (suc (suc (suc zero)))) i h some small low high = u32_same a b from to i h low (omega arith)
offset_same a b from to (suc (suc (suc (suc (suc n))))) i h some small low high = absurd (omega arith)

between_in : (from to : ℕ) (index : Index) (x y : ℕ) → IsIndexFrom from to index → IfSome (item_between index x y) (IsSpanFrom from to)
between_in from to index x y is = either (nat_le 1 x && (nat_le x y && nat_le (index.base + y) index.end)) refl
  where
    either : (c : Bool) → (nat_le 1 x && (nat_le x y && nat_le (index.base + y) index.end)) ≡ c → IfSome (cond c (Some (record { from = index.base + x; to = index.base + y })) None) (IsSpanFrom from to)
    either true e =
        let parts = and_parts (nat_le 1 x) (nat_le x y && nat_le (index.base + y) index.end) e in
        let last = leb-true (index.base + y) index.end (and_parts (nat_le x y) (nat_le (index.base + y) index.end) parts.1).1 in
        record { low = omega (arith, is.base); high = omega (arith, last, is.end) }
    either false e = tt

pub item_one : (a b : List ℕ) (from to : ℕ) (index : Index) (k : ℕ) → AgreeOn a b from to → IsItemsFrom from to index → AreOne (IsSpanFrom from to) (item_at a index k) (item_at b index k)
item_one a b from to index k h is =
    test_one (IsSpanFrom from to) (nat_lt k index.count) (nat_lt k index.count) _ _ _ _ refl (λ less. items is (ltb-true k index.count less)) (λ _. none_is (IsSpanFrom from to))
  where
    last_place : (size n k : ℕ) → k < n → size * (k + 1) + size ≤ size * (n + 1)
    last_place size n k less = omega (arith, mul-le size (k + 2) size (n + 1) (omega arith) (omega (arith, less)))

    found : IsIndexFrom from to index → (index.count ≡ 0) ⊎ HasOffsets to index → k < index.count →
        AreOne (IsSpanFrom from to) (item_between index (offset_at a index.size (index.first + index.size * k)) (offset_at a index.size (index.first + index.size * (k + 1))))
        (item_between index (offset_at b index.size (index.first + index.size * k)) (offset_at b index.size (index.first + index.size * (k + 1))))
    found is (inl none) less = absurd (omega (arith, none, less))
    found is (inr (some, small, room)) less =
        let last = last_place index.size index.count k less in
        let one = offset_same a b from to index.size (index.first + index.size * k) h some small (omega (arith, is.first)) (omega (arith, last, room)) in
        let next = offset_same a b from to index.size (index.first + index.size * (k + 1)) h some small (omega (arith, is.first)) (omega (arith, last, room)) in
        record {
          same = ap (λ n. item_between index n (offset_at a index.size (index.first + index.size * (k + 1)))) one ∙ ap (item_between index (offset_at b index.size (index.first + index.size * k))) next;
          holds = between_in from to index (offset_at a index.size (index.first + index.size * k)) (offset_at a index.size (index.first + index.size * (k + 1))) is;
        }

    items : IsItemsFrom from to index → k < index.count → AreOne (IsSpanFrom from to) (item_between index (offset_at a index.size (index.first + index.size * k)) (offset_at a index.size (index.first + index.size * (k + 1))))
        (item_between index (offset_at b index.size (index.first + index.size * k)) (offset_at b index.size (index.first + index.size * (k + 1))))
    items (inl none) less = absurd (omega (arith, none, less))
    items (inr is) less = found is is.offsets less

out_none : (stop : ℕ) (index : Index) → stop ≤ index.base → index_if_whole stop index ≡ None
out_none stop index out = either (ends_within stop index) refl
  where
    either : (c : Bool) → ends_within stop index ≡ c → cond c (Some index) None ≡ None
    either true e =
        let parts = and_parts (nat_lt index.base index.end) (nat_le index.end stop) e in
        absurd (omega (arith, out, ltb-true index.base index.end parts.0, leb-true index.end stop parts.1))
    either false e = refl

sized_none : (bytes : List ℕ) (stop at count size : ℕ) → stop ≤ at + 2 → index_of_size bytes stop at count size ≡ None
sized_none bytes stop at count size out = either (nat_lt size 1 || nat_lt 4 size)
  where
    either : (c : Bool) → cond c None (index_if_whole stop (index_with bytes at count size)) ≡ None
    either true = refl
    either false = out_none stop (index_with bytes at count size) (omega (arith, out))

both_none : (from to : ℕ) (o p : Option Index) → o ≡ None → p ≡ None → AreOne (IsIndexFrom from to) o p
both_none from to o p d e = record { same = d ∙ sym e; holds = subst (λ (o : Option Index). IfSome o (IsIndexFrom from to)) (sym d) tt }

whole_one : (a b : List ℕ) (from to at count size : ℕ) → AgreeOn a b from to → from ≤ at → 1 ≤ size → size ≤ 4 →
    AreOne (IsIndexFrom from to) (index_if_whole to (index_with a at count size)) (index_if_whole to (index_with b at count size))
whole_one a b from to at count size h low some small = either (nat_lt to (at + 3 + size * count + size)) refl
  where
    inside : (c : Bool) → ends_within to (index_with a at count size) ≡ c → IfSome (cond c (Some (index_with a at count size)) None) (IsIndexFrom from to)
    inside true e =
        let index = index_with a at count size in
        let parts = and_parts (nat_lt index.base index.end) (nat_le index.end to) e in
        let behind = ltb-true index.base index.end parts.0 in
        let most = leb-true index.end to parts.1 in
        record { first = omega (arith, low); base = omega (arith, low); behind = omega (arith, low); end = most; offsets = inr (some, small, omega (arith, behind, most)) }
    inside false e = tt

    either : (c : Bool) → nat_lt to (at + 3 + size * count + size) ≡ c → AreOne (IsIndexFrom from to) (index_if_whole to (index_with a at count size)) (index_if_whole to (index_with b at count size))
    either true e =
        let out : to ≤ at + 2 + size * (count + 1) = omega (arith, ltb-true to (at + 3 + size * count + size) e) in
        both_none from to _ _ (out_none to (index_with a at count size) out) (out_none to (index_with b at count size) out)
    either false e =
        let room : at + 3 + size * count + size ≤ to = ltb-false to (at + 3 + size * count + size) e in
        let last = offset_same a b from to size (at + 3 + size * count) h some small (omega (arith, low)) room in
        record {
          same = ap (λ (n : ℕ). index_if_whole to (record { count = count; size = size; first = at + 3; base = at + 2 + size * (count + 1); end = at + 2 + size * (count + 1) + n })) last;
          holds = inside (ends_within to (index_with a at count size)) refl;
        }

sized_one : (a b : List ℕ) (from to at count size : ℕ) → AgreeOn a b from to → from ≤ at → AreOne (IsIndexFrom from to) (index_of_size a to at count size) (index_of_size b to at count size)
sized_one a b from to at count size h low =
    test_one (IsIndexFrom from to) (nat_lt size 1 || nat_lt 4 size) (nat_lt size 1 || nat_lt 4 size) _ _ _ _ refl (λ _. none_is (IsIndexFrom from to)) (λ good.
    let parts = or_parts (nat_lt size 1) (nat_lt 4 size) good in
    whole_one a b from to at count size h low (ltb-false size 1 parts.0) (ltb-false 4 size parts.1))

pub index_one : (a b : List ℕ) (from to at : ℕ) → AgreeOn a b from to → from ≤ at → AreOne (IsIndexFrom from to) (index_at a to at) (index_at b to at)
index_one a b from to at h low =
    test_one (IsIndexFrom from to) (nat_lt to (at + 2)) (nat_lt to (at + 2)) _ _ _ _ refl (λ _. none_is (IsIndexFrom from to)) (λ fits.
    let room : at + 2 ≤ to = ltb-false to (at + 2) fits in
    let count = u16_same a b from to at h low room in
    test_one (IsIndexFrom from to) (u16_at a at == 0) (u16_at b at == 0) _ _ _ _ (ap (λ n. n == 0) count)
    (λ _. record { same = refl; holds = record { first = omega (arith, low); base = omega (arith, low); behind = omega (arith, low); end = room; offsets = inl refl } })
    (λ _. sized (nat_lt to (at + 3)) refl count))
  where
    sized : (c : Bool) → nat_lt to (at + 3) ≡ c → u16_at a at ≡ u16_at b at →
        AreOne (IsIndexFrom from to) (index_of_size a to at (u16_at a at) (u8_at a (at + 2))) (index_of_size b to at (u16_at b at) (u8_at b (at + 2)))
    sized true e count =
        let out : to ≤ at + 2 = omega (arith, ltb-true to (at + 3) e) in
        both_none from to _ _ (sized_none a to at (u16_at a at) (u8_at a (at + 2)) out) (sized_none b to at (u16_at b at) (u8_at b (at + 2)) out)
    sized false e count =
        let size = u8_same a b from to (at + 2) h (omega (arith, low)) (omega (arith, ltb-false to (at + 3) e)) in
        let one = sized_one a b from to at (u16_at a at) (u8_at a (at + 2)) h low in
        record { same = one.same ∙ (ap (λ n. index_of_size b to at n (u8_at a (at + 2))) count ∙ ap (index_of_size b to at (u16_at b at)) size); holds = one.holds }

-- ---- numbers and operators

-- a number or an operator that ends behind a place
abbrev pub IsTokenBehind : ℕ → Token → Type 0
IsTokenBehind from token = from ≤ behind_token token

pub s32_same : (a b : List ℕ) (from to i : ℕ) → AgreeOn a b from to → from ≤ i → i + 4 ≤ to → s32_at a i ≡ s32_at b i
unfolding s32_at
s32_same a b from to i h low high = ap (with_sign 2147483648) (u32_same a b from to i h low high)

pub number_one : (from stop behind : ℕ) (x y : ℤ) → from ≤ behind → (behind ≤ stop → x ≡ y) → AreOne (IsTokenBehind from) (number_before stop behind x) (number_before stop behind y)
number_one from stop behind x y low e =
    test_one (IsTokenBehind from) (nat_lt stop behind) (nat_lt stop behind) _ _ _ _ refl (λ _. none_is (IsTokenBehind from)) (λ fits.
    record { same = ap (λ v. Some (Number v behind)) (e (ltb-false stop behind fits)); holds = low })

pub whole_number_one : (a b : List ℕ) (from to stop at byte : ℕ) → AgreeOn a b from to → from ≤ at → stop ≤ to → AreOne (IsTokenBehind from) (whole_number a stop at byte) (whole_number b stop at byte)
whole_number_one a b from to stop at byte h low short =
    let P = IsTokenBehind from in
    test_one P (byte == 28) (byte == 28) _ _ _ _ refl (λ _. number_one from stop (at + 3) _ _ (omega (arith, low)) (λ fits. s16_same a b from to (at + 1) h (omega (arith, low)) (omega (arith, fits, short)))) (λ _.
    test_one P (nat_lt byte 32) (nat_lt byte 32) _ _ _ _ refl (λ _. none_is P) (λ _.
    test_one P (nat_lt byte 247) (nat_lt byte 247) _ _ _ _ refl (λ _. number_one from stop (at + 1) _ _ (omega (arith, low)) (λ _. refl)) (λ _.
    test_one P (nat_lt byte 251) (nat_lt byte 251) _ _ _ _ refl
    (λ _. number_one from stop (at + 2) _ _ (omega (arith, low)) (λ fits. ap (λ n. pos (two_byte_number 247 byte n)) (u8_same a b from to (at + 1) h (omega (arith, low)) (omega (arith, fits, short))))) (λ _.
    test_one P (nat_lt byte 255) (nat_lt byte 255) _ _ _ _ refl
    (λ _. number_one from stop (at + 2) _ _ (omega (arith, low)) (λ fits. ap (λ n. neg_ℤ (pos (two_byte_number 251 byte n))) (u8_same a b from to (at + 1) h (omega (arith, low)) (omega (arith, fits, short)))))
    (λ _. none_is P)))))

pub operator_one : (a b : List ℕ) (from to stop at byte : ℕ) → AgreeOn a b from to → from ≤ at → stop ≤ to → AreOne (IsTokenBehind from) (operator_at a stop at byte) (operator_at b stop at byte)
operator_one a b from to stop at byte h low short =
    let P = IsTokenBehind from in
    test_one P (byte == 12) (byte == 12) _ _ _ _ refl (λ _.
    test_one P (nat_lt stop (at + 2)) (nat_lt stop (at + 2)) _ _ _ _ refl (λ _. none_is P) (λ fits.
    let room : at + 2 ≤ stop = ltb-false stop (at + 2) fits in
    record { same = ap (λ n. Some (Operator (escape_base + n) (at + 2))) (u8_same a b from to (at + 1) h (omega (arith, low)) (omega (arith, room, short))); holds = omega (arith, low) }))
    (λ _. record { same = refl; holds = omega (arith, low) })

-- ---- DICTs

real_one : (a b : List ℕ) (from to n at : ℕ) → AgreeOn a b from to → from ≤ at → at + n ≤ to → AreOne (λ place. from ≤ place) (behind_real a n at) (behind_real b n at)
real_one a b from to zero at h low room = none_is (λ place. from ≤ place)
real_one a b from to (suc n) at h low room =
    test_one (λ place. from ≤ place) (ends_real (u8_at a at)) (ends_real (u8_at b at)) _ _ _ _ (ap ends_real (u8_same a b from to at h low (omega (arith, room))))
    (λ _. record { same = refl; holds = omega (arith, low) }) (λ _. real_one a b from to n (at + 1) h (omega (arith, low)) (omega (arith, room)))

dict_token_of_one : (a b : List ℕ) (from to stop at byte : ℕ) → AgreeOn a b from to → from ≤ at → at < stop → stop ≤ to → AreOne (IsTokenBehind from) (dict_token_of a stop at byte) (dict_token_of b stop at byte)
dict_token_of_one a b from to stop at byte h low inside short =
    let P = IsTokenBehind from in
    test_one P (nat_lt byte 22) (nat_lt byte 22) _ _ _ _ refl (λ _. operator_one a b from to stop at byte h low short) (λ _.
    test_one P (byte == 29) (byte == 29) _ _ _ _ refl (λ _. number_one from stop (at + 5) _ _ (omega (arith, low)) (λ fits. s32_same a b from to (at + 1) h (omega (arith, low)) (omega (arith, fits, short)))) (λ _.
    test_one P (byte == 30) (byte == 30) _ _ _ _ refl
    (λ _. map_one (λ place. from ≤ place) P _ _ real_number (real_one a b from to (stop - (at + 1)) (at + 1) h (omega (arith, low)) (omega (arith, inside, short))) (λ place behind. behind))
    (λ _. whole_number_one a b from to stop at byte h low short)))

pub dict_token_one : (a b : List ℕ) (from to stop at : ℕ) → AgreeOn a b from to → from ≤ at → stop ≤ to → AreOne (IsTokenBehind from) (dict_token a stop at) (dict_token b stop at)
dict_token_one a b from to stop at h low short =
    test_one (IsTokenBehind from) (nat_le stop at) (nat_le stop at) _ _ _ _ refl (λ _. none_is (IsTokenBehind from)) (λ before.
    let inside : at < stop = leb-false stop at before in
    let one = dict_token_of_one a b from to stop at (u8_at a at) h low inside short in
    record { same = one.same ∙ ap (dict_token_of b stop at) (u8_same a b from to at h low (omega (arith, inside, short))); holds = one.holds })

token_and_same : (from : ℕ) (f g : ℕ → List Token) (o p : Option Token) → AreOne (IsTokenBehind from) o p → ((at : ℕ) → from ≤ at → f at ≡ g at) → token_and f o ≡ token_and g p
token_and_same from f g None p one e = ap (token_and g) one.same
token_and_same from f g (Some token) p one e = ap (λ rest. token ∷ rest) (e (behind_token token) one.holds) ∙ ap (token_and g) one.same

tokens_same : (a b : List ℕ) (from to stop n at : ℕ) → AgreeOn a b from to → from ≤ at → stop ≤ to → dict_tokens a stop n at ≡ dict_tokens b stop n at
unfolding dict_tokens
tokens_same a b from to stop zero at h low short = refl
tokens_same a b from to stop (suc n) at h low short =
    token_and_same from (dict_tokens a stop n) (dict_tokens b stop n) (dict_token a stop at) (dict_token b stop at) (dict_token_one a b from to stop at h low short) (λ place behind. tokens_same a b from to stop n place h behind short)

pub operands_same : (a b : List ℕ) (from to : ℕ) (dict : Span) (code : ℕ) → AgreeOn a b from to → IsSpanFrom from to dict → operands_of a dict code ≡ operands_of b dict code
operands_same a b from to dict code h is = ap (operands_in code (no_operands dict.from)) (tokens_same a b from to dict.to (dict.to - dict.from) dict.from h is.low is.high)
