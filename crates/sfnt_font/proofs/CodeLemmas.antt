-- The list of a font's codes: how long it is, what stands at a place of it, and where a code stands first.
use Rattle.std.proofs.Common.{◌≡◌, ℕ, zero, suc, ◌+◌, ◌-◌, ◌<◌, ◌≤◌, List, [], ◌∷◌, ◌++◌, length, length-append, get_or, append_assoc, Bool, true, false, cond, ◌&&◌, Option, Some, None, ◌⊎◌, inl, inr, refl, ap, sym, ◌∙◌, ℤ, pos, negsuc, ◌<ℤ◌, arith}
use Rattle.std.specs.Prelude.{nat_lt, nat_le, option_map, slice_get}
use Rattle.std.specs.Option.{option_or}
use Rattle.std.specs.Ordering.{int_eq}
use Rattle.std.specs.List.Sorted.{IsPartitionPoint, IsPartitionedBy}
use Rattle.std.proofs.lemmas.Bool.{cases_lt, leb-true, leb-false, le-leb, lt-ltb, le-ltb}
use Rattle.std.proofs.lemmas.Bool.Decides.{nat_tests}
use Rattle.std.proofs.lemmas.Int.{ints}
use Rattle.std.proofs.lemmas.Option.{none-some, get_or_from_slice_get}
use Rattle.std.proofs.lemmas.List.{get_or_append_left, get_or-append_right}
use Rattle.std.proofs.lemmas.List.FromFn.{length-map-range_with_len, get_or-map-range_with_len}
use Rattle.std.proofs.Math.Seq.{get_or-append_seam}
use Rattle.sfnt_font.specs.declared.font.SfntFont.{SfntFont}
use Rattle.sfnt_font.specs.declared.segments.Segment.{Segment}
use Rattle.sfnt_font.specs.Maps.{codes_to, max_code}
use Rattle.sfnt_font.specs.Ranges.{are_in_order, IsSfntFont}
use Rattle.sfnt_font.specs.Fonts.{segment_from, segment_of, place_in, no_segment, symbol_count, place_of_code, glyph_number}
use Rattle.sfnt_font.specs.Codes.{codes_from, segment_codes, codes_of, missing_code, font_codes, max_codes, code_place_from, glyph_of_code}
use Rattle.sfnt_font.proofs.OrderLemmas.{count_after, tail_in_order, ascends_at, facts_at}

-- ---- how many codes there are

length-codes_from : (first n : ℕ) → length (codes_from first n) ≡ n
length-codes_from first n = length-map-range_with_len pos first n

length-segment_codes : (segment : Segment) → length (segment_codes segment) ≡ segment.last + 1 - segment.first
length-segment_codes segment = length-codes_from segment.first (segment.last + 1 - segment.first)

pub length-codes_of : (low count : ℕ) (segments : List Segment) → are_in_order low count segments ≡ true → count + length (codes_of segments) ≡ count_after count segments
length-codes_of low count [] h = omega arith
length-codes_of low count (segment ∷ segments) h =
    let tail = tail_in_order low count segment segments h in
    let all : length (segment_codes segment ++ codes_of segments) ≡ length (segment_codes segment) + length (codes_of segments) = length-append (segment_codes segment) (codes_of segments) in
    let here : length (segment_codes segment) ≡ segment.last + 1 - segment.first = length-segment_codes segment in
    let rest : codes_to segment + length (codes_of segments) ≡ count_after (codes_to segment) segments = length-codes_of (segment.last + 1) (codes_to segment) segments tail.1 in
    let whole : count + length (segment_codes segment ++ codes_of segments) ≡ count_after (codes_to segment) segments = omega (arith, all, here, rest, tail.0.counted) in
    whole

pub count_after-last : (count : ℕ) (segments : List Segment) (k : ℕ) (d : Segment) → length segments ≡ k + 1 → count_after count segments ≡ codes_to (get_or segments k d)
count_after-last count [] k d long = absurd (omega arith)
count_after-last count (segment ∷ []) zero d long = refl
count_after-last count (segment ∷ []) (suc k) d long = absurd (omega arith)
count_after-last count (segment ∷ next ∷ segments) zero d long = absurd (omega arith)
count_after-last count (segment ∷ next ∷ segments) (suc k) d long = count_after-last (codes_to segment) (next ∷ segments) k d (omega arith)

-- the codes of segments are no more than those of characters
pub codes_to-most : (segments : List Segment) → are_in_order 0 0 segments ≡ true → (k : ℕ) (d : Segment) → k < length segments → codes_to (get_or segments k d) ≤ max_code + 1
codes_to-most segments h k d room =
    let facts = facts_at 0 0 segments h k d room (omega arith) in
    let up = ascends_at 0 0 segments h k d room in
    omega (arith, facts.0, facts.1, up)

abbrev IsLast : List Segment → Segment → Type 0
IsLast segments segment = Some segment ≡ slice_get segments (length segments - 1)

last_at : (first : Segment) (rest : List Segment) (segment : Segment) → IsLast (first ∷ rest) segment → get_or (first ∷ rest) (length rest) no_segment ≡ segment
last_at first rest segment h =
    let place : length rest ≡ length (first ∷ rest) - 1 = omega arith in
    ap (λ k. get_or (first ∷ rest) k no_segment) place ∙ get_or_from_slice_get (first ∷ rest) (length (first ∷ rest) - 1) segment no_segment (sym h)

-- the last segment tells how many codes there are
pub last_counts : (segments : List Segment) (segment : Segment) → are_in_order 0 0 segments ≡ true → IsLast segments segment → codes_to segment ≡ length (codes_of segments)
last_counts [] segment order h = absurd (none-some segment (sym h))
last_counts (first ∷ rest) segment order h =
    let last : count_after 0 (first ∷ rest) ≡ codes_to (get_or (first ∷ rest) (length rest) no_segment) = count_after-last 0 (first ∷ rest) (length rest) no_segment (omega arith) in
    let all : 0 + length (codes_of (first ∷ rest)) ≡ count_after 0 (first ∷ rest) = length-codes_of 0 0 (first ∷ rest) order in
    let none : length (codes_of (first ∷ rest)) ≡ 0 + length (codes_of (first ∷ rest)) = omega arith in
    sym (none ∙ (all ∙ (last ∙ ap codes_to (last_at first rest segment h))))

pub last_counts-most : (segments : List Segment) (segment : Segment) → are_in_order 0 0 segments ≡ true → IsLast segments segment → codes_to segment ≤ max_code + 1
last_counts-most [] segment order h = absurd (none-some segment (sym h))
last_counts-most (first ∷ rest) segment order h =
    rw (← last_at first rest segment h) (codes_to-most (first ∷ rest) order (length rest) no_segment (omega arith))

-- ---- segments in the order of their codes

counts_rise : (low count : ℕ) (segments : List Segment) → are_in_order low count segments ≡ true → (j : ℕ) (d : Segment) → j < length segments → count ≤ (get_or segments j d).before
counts_rise low count [] h j d room = absurd (omega arith)
counts_rise low count (first ∷ segments) h zero d room = let facts = (tail_in_order low count first segments h).0 in omega (arith, facts.counted)
counts_rise low count (first ∷ segments) h (suc j) d room =
    let tail = tail_in_order low count first segments h in
    let later : codes_to first ≤ (get_or segments j d).before = counts_rise (first.last + 1) (codes_to first) segments tail.1 j d (omega arith) in
    omega (arith, later, tail.0.counted)

-- the codes up to a segment's end are no more than those before each later one
counts_apart : (low count : ℕ) (segments : List Segment) → are_in_order low count segments ≡ true → (i j : ℕ) (d : Segment) → i < j → j < length segments → codes_to (get_or segments i d) ≤ (get_or segments j d).before
counts_apart low count [] h i j d less room = absurd (omega arith)
counts_apart low count (first ∷ segments) h i zero d less room = absurd (omega arith)
counts_apart low count (first ∷ segments) h zero (suc j) d less room = counts_rise (first.last + 1) (codes_to first) segments (tail_in_order low count first segments h).1 j d (omega arith)
counts_apart low count (first ∷ segments) h (suc i) (suc j) d less room = counts_apart (first.last + 1) (codes_to first) segments (tail_in_order low count first segments h).1 i j d (omega arith) (omega arith)

pub is_counted : (segments : List Segment) (at : ℕ) → are_in_order 0 0 segments ≡ true → IsPartitionedBy (λ segment. nat_le (codes_to segment) at) segments
is_counted segments at h i j d le room below = sides (cases_lt i j)
  where
    sides : (i < j) ⊎ (j ≤ i) → nat_le (codes_to (get_or segments i d)) at ≡ true
    sides (inl before) =
        let apart : codes_to (get_or segments i d) ≤ (get_or segments j d).before = counts_apart 0 0 segments h i j d before room in
        let under : codes_to (get_or segments j d) ≤ at = leb-true (codes_to (get_or segments j d)) at below in
        le-leb (codes_to (get_or segments i d)) at (omega (arith, apart, under))
    sides (inr behind) = let same : i ≡ j = omega arith in rw same below

-- ---- the code at a place

code_there : (low count : ℕ) (segments : List Segment) → are_in_order low count segments ≡ true → (k at : ℕ) (d : Segment) (c : ℤ) → count ≤ at → k < length segments →
    ((j : ℕ) → j < k → codes_to (get_or segments j d) ≤ at) → at < codes_to (get_or segments k d) →
    ((get_or segments k d).before ≤ at) × (get_or (codes_of segments) (at - count) c ≡ pos ((get_or segments k d).first + (at - (get_or segments k d).before)))
code_there low count [] h k at d c from room before up = absurd (omega arith)
code_there low count (segment ∷ segments) h zero at d c from room before up =
    let counted : segment.before ≡ count = (tail_in_order low count segment segments h).0.counted in
    let here : length (segment_codes segment) ≡ segment.last + 1 - segment.first = length-segment_codes segment in
    let left : get_or (segment_codes segment ++ codes_of segments) (at - count) c ≡ get_or (segment_codes segment) (at - count) c =
    get_or_append_left (segment_codes segment) (codes_of segments) c (at - count) (omega (arith, here, counted, up)) in
    let code : get_or (segment_codes segment) (at - count) c ≡ pos (segment.first + (at - segment.before)) =
    get_or-map-range_with_len pos segment.first (segment.last + 1 - segment.first) (at - count) (segment.first + (at - segment.before)) c (omega (arith, counted, up)) (omega (arith, counted)) in
    (omega (arith, counted), left ∙ code)
code_there low count (segment ∷ segments) h (suc k) at d c from room before up =
    let tail = tail_in_order low count segment segments h in
    let counted : segment.before ≡ count = tail.0.counted in
    let under : codes_to segment ≤ at = before 0 (omega arith) in
    let rest = code_there (segment.last + 1) (codes_to segment) segments tail.1 k at d c under (omega arith) (λ j less. before (suc j) (omega arith)) up in
    let right : get_or (segment_codes segment ++ codes_of segments) (at - count) c ≡ get_or (codes_of segments) ((at - count) - (segment.last + 1 - segment.first)) c =
    get_or-append_right (segment_codes segment) (codes_of segments) (segment.last + 1 - segment.first) (at - count) c (length-segment_codes segment) (omega (arith, counted, under)) in
    let place : (at - count) - (segment.last + 1 - segment.first) ≡ at - codes_to segment = omega (arith, counted) in
    (rest.0, right ∙ (ap (λ i. get_or (codes_of segments) i c) place ∙ rest.1))

none_at : (i : ℕ) (c : ℤ) → get_or [] i c ≡ c
none_at zero c = refl
none_at (suc i) c = refl

code_nowhere : (low count : ℕ) (segments : List Segment) → are_in_order low count segments ≡ true → (at : ℕ) (d : Segment) (c : ℤ) → count ≤ at →
    ((j : ℕ) → j < length segments → codes_to (get_or segments j d) ≤ at) → get_or (codes_of segments) (at - count) c ≡ c
code_nowhere low count [] h at d c from before = none_at (at - count) c
code_nowhere low count (segment ∷ segments) h at d c from before =
    let tail = tail_in_order low count segment segments h in
    let counted : segment.before ≡ count = tail.0.counted in
    let under : codes_to segment ≤ at = before 0 (omega arith) in
    let rest : get_or (codes_of segments) (at - codes_to segment) c ≡ c = code_nowhere (segment.last + 1) (codes_to segment) segments tail.1 at d c under (λ j room. before (suc j) (omega arith)) in
    let right : get_or (segment_codes segment ++ codes_of segments) (at - count) c ≡ get_or (codes_of segments) ((at - count) - (segment.last + 1 - segment.first)) c =
    get_or-append_right (segment_codes segment) (codes_of segments) (segment.last + 1 - segment.first) (at - count) c (length-segment_codes segment) (omega (arith, counted, under)) in
    let place : (at - count) - (segment.last + 1 - segment.first) ≡ at - codes_to segment = omega (arith, counted) in
    right ∙ (ap (λ i. get_or (codes_of segments) i c) place ∙ rest)

-- the place that halving gives
abbrev pub IsCodePoint : List Segment → ℕ → ℕ → Type 0
IsCodePoint segments at k = IsPartitionPoint (λ segment. nat_le (codes_to segment) at ≡ true) (λ segment. nat_le (codes_to segment) at ≡ false) segments k

pub code_at-there : (segments : List Segment) (at k : ℕ) (d : Segment) (c : ℤ) → are_in_order 0 0 segments ≡ true → IsCodePoint segments at k → k < length segments →
    (get_or (codes_of segments) at c ≡ pos ((get_or segments k d).first + (at - (get_or segments k d).before))) × ((get_or segments k d).first + (at - (get_or segments k d).before) ≤ max_code)
code_at-there segments at k d c h point room =
    let up : at < codes_to (get_or segments k d) = leb-false (codes_to (get_or segments k d)) at (point.1 k d (omega arith) room) in
    let found = code_there 0 0 segments h k at d c (omega arith) room (λ j less. leb-true (codes_to (get_or segments j d)) at (point.0 j d (omega arith) less)) up in
    let facts = facts_at 0 0 segments h k d room (omega arith) in
    let rises = ascends_at 0 0 segments h k d room in
    let same : at ≡ at - 0 = omega arith in
    (ap (λ i. get_or (codes_of segments) i c) same ∙ found.1, omega (arith, found.0, up, facts.1, rises))

pub code_at-nowhere : (segments : List Segment) (at k : ℕ) (d : Segment) (c : ℤ) → are_in_order 0 0 segments ≡ true → IsCodePoint segments at k → k ≡ length segments → get_or (codes_of segments) at c ≡ c
code_at-nowhere segments at k d c h point end =
    let same : at ≡ at - 0 = omega arith in
    ap (λ i. get_or (codes_of segments) i c) same
    ∙ code_nowhere 0 0 segments h at d c (omega arith) (λ j room. leb-true (codes_to (get_or segments j d)) at (point.0 j d (omega arith) (omega arith)))

pub symbol_at : (n place : ℕ) (codes : List ℤ) (c : ℤ) → place < n → get_or (codes_from 0 n ++ codes) place c ≡ pos place
symbol_at n place codes c less =
    let long : length (codes_from 0 n) ≡ n = length-codes_from 0 n in
    get_or_append_left (codes_from 0 n) codes c place (omega (arith, long)) ∙ get_or-map-range_with_len pos 0 n place place c less (omega arith)

last_is_missing : (codes : List ℤ) (i : ℕ) (c : ℤ) → get_or (codes ++ c ∷ []) i c ≡ get_or codes i c
last_is_missing [] zero c = refl
last_is_missing [] (suc zero) c = refl
last_is_missing [] (suc (suc i)) c = refl
last_is_missing (code ∷ codes) zero c = refl
last_is_missing (code ∷ codes) (suc i) c = last_is_missing codes i c

pub behind_symbols : (n place : ℕ) (codes : List ℤ) (c : ℤ) → n ≤ place → get_or (codes_from 0 n ++ (codes ++ c ∷ [])) place c ≡ get_or codes (place - n) c
behind_symbols n place codes c le = get_or-append_right (codes_from 0 n) (codes ++ c ∷ []) n place c (length-codes_from 0 n) le ∙ last_is_missing codes (place - n) c

pub length-font_codes : (font : SfntFont) → length (font_codes font) ≡ symbol_count font + length (codes_of font.segments) + 1
length-font_codes font =
    let front : length (codes_from 0 (symbol_count font)) ≡ symbol_count font = length-codes_from 0 (symbol_count font) in
    let all = length-append (codes_from 0 (symbol_count font)) (codes_of font.segments ++ missing_code ∷ []) in
    let rest = length-append (codes_of font.segments) (missing_code ∷ []) in
    omega (arith, front, all, rest)

-- ---- the first place of a code

append-step : (n : ℕ) (code : ℤ) (front back : List ℤ) (b : Bool) → code_place_from (n + 1) code (front ++ back) ≡ option_or (code_place_from (n + 1) code front) (code_place_from ((n + 1) + length front) code back) →
    cond b (Some n) (code_place_from (n + 1) code (front ++ back)) ≡ option_or (cond b (Some n) (code_place_from (n + 1) code front)) (code_place_from (n + suc (length front)) code back)
append-step n code front back true later = refl
append-step n code front back false later =
    let next : (n + 1) + length front ≡ n + suc (length front) = omega arith in
    later ∙ ap (λ m. option_or (code_place_from (n + 1) code front) (code_place_from m code back)) next

place-append : (n : ℕ) (code : ℤ) (front back : List ℤ) → code_place_from n code (front ++ back) ≡ option_or (code_place_from n code front) (code_place_from (n + length front) code back)
place-append n code [] back = let same : n ≡ n + 0 = omega arith in ap (λ m. code_place_from m code back) same
place-append n code (c ∷ front) back = append-step n code front back (int_eq c code) (place-append (n + 1) code front back)

eq-pos : (m : ℕ) → int_eq (pos m) (pos m) ≡ true
eq-pos m = grind (arith, ints)

neq-pos : (m n : ℕ) → (m < n) ⊎ (n < m) → int_eq (pos m) (pos n) ≡ false
neq-pos m n (inl h) = grind (arith, ints)
neq-pos m n (inr h) = grind (arith, ints)

neq-missing : (m : ℕ) → int_eq (pos m) missing_code ≡ false
neq-missing m = grind (arith, ints)

missing-neq : (m : ℕ) → int_eq missing_code (pos m) ≡ false
missing-neq m = grind (arith, ints)

outside_place : (n first count code : ℕ) → (code < first) ⊎ (first + count ≤ code) → code_place_from n (pos code) (codes_from first count) ≡ None
outside_place n first zero code out = refl
outside_place n first (suc count) code (inl below) =
    ap (λ b. cond b (Some n) (code_place_from (n + 1) (pos code) (codes_from (first + 1) count))) (neq-pos first code (inr below))
    ∙ outside_place (n + 1) (first + 1) count code (inl (omega arith))
outside_place n first (suc count) code (inr above) =
    ap (λ b. cond b (Some n) (code_place_from (n + 1) (pos code) (codes_from (first + 1) count))) (neq-pos first code (inl (omega arith)))
    ∙ outside_place (n + 1) (first + 1) count code (inr (omega arith))

-- the place of a code in a list whose first code is `first`
abbrev place_behind : ℕ → ℕ → ℕ → ℕ → Option ℕ
place_behind n first count code = code_place_from (n + 1) (pos code) (codes_from (first + 1) count)

inside-step : (n first count code : ℕ) → (first < code) ⊎ (code ≤ first) → first ≤ code → (first < code → place_behind n first count code ≡ Some ((n + 1) + (code - (first + 1)))) →
    cond (int_eq (pos first) (pos code)) (Some n) (place_behind n first count code) ≡ Some (n + (code - first))
inside-step n first count code (inl later) from rest =
    let place : (n + 1) + (code - (first + 1)) ≡ n + (code - first) = omega arith in
    ap (λ b. cond b (Some n) (place_behind n first count code)) (neq-pos first code (inl later)) ∙ (rest later ∙ ap Some place)
inside-step n first count code (inr here) from rest =
    let same : first ≡ code = omega arith in
    let place : n ≡ n + (code - first) = omega arith in
    ap (λ b. cond b (Some n) (place_behind n first count code)) (ap (λ m. int_eq (pos m) (pos code)) same ∙ eq-pos code) ∙ ap Some place

inside_place : (n first count code : ℕ) → first ≤ code → code < first + count → code_place_from n (pos code) (codes_from first count) ≡ Some (n + (code - first))
inside_place n first zero code from to = absurd (omega arith)
inside_place n first (suc count) code from to =
    inside-step n first count code (cases_lt first code) from (λ later. inside_place (n + 1) (first + 1) count code (omega arith) (omega arith))

no_missing_place : (n first count : ℕ) → code_place_from n missing_code (codes_from first count) ≡ None
no_missing_place n first zero = refl
no_missing_place n first (suc count) =
    ap (λ b. cond b (Some n) (code_place_from (n + 1) missing_code (codes_from (first + 1) count))) (neq-missing first) ∙ no_missing_place (n + 1) (first + 1) count

-- the place of a code among those of segments, which stand behind `base` others
abbrev place_among : ℕ → ℕ → List Segment → Option ℕ
place_among base code [] = None
place_among base code (segment ∷ segments) = cond (nat_le segment.first code && nat_le code segment.last) (Some (base + place_in segment code)) (place_among base code segments)

abbrev place_at : ℕ → ℕ → List Segment → ℕ → ℕ
place_at base code all k = base + place_in (get_or all k no_segment) code

among-step : (base code : ℕ) (front : List Segment) (segment : Segment) (segments : List Segment) (b : Bool) →
    option_map (place_at base code ((front ++ segment ∷ []) ++ segments)) (segment_from (length (front ++ segment ∷ [])) code segments) ≡ place_among base code segments →
    option_map (place_at base code (front ++ segment ∷ segments)) (cond b (Some (length front)) (segment_from (length front + 1) code segments)) ≡ cond b (Some (base + place_in segment code)) (place_among base code segments)
among-step base code front segment segments true later = ap (λ s. Some (base + place_in s code)) (get_or-append_seam front segment segments no_segment)
among-step base code front segment segments false later =
    ap (λ all. option_map (place_at base code all) (segment_from (length front + 1) code segments)) (sym (append_assoc front (segment ∷ []) segments))
    ∙ (ap (λ m. option_map (place_at base code ((front ++ segment ∷ []) ++ segments)) (segment_from m code segments)) (sym (length-append front (segment ∷ [])))
    ∙ later)

among_segments : (base code : ℕ) (front segments : List Segment) → option_map (place_at base code (front ++ segments)) (segment_from (length front) code segments) ≡ place_among base code segments
among_segments base code front [] = refl
among_segments base code front (segment ∷ segments) =
    among-step base code front segment segments (nat_le segment.first code && nat_le code segment.last) (among_segments base code (front ++ segment ∷ []) segments)

in-true : (segment : Segment) (code : ℕ) → segment.first ≤ code → code ≤ segment.last → (nat_le segment.first code && nat_le code segment.last) ≡ true
in-true segment code from to = grind (arith, nat_tests)

out-false : (segment : Segment) (code : ℕ) → (code < segment.first) ⊎ (segment.last < code) → (nat_le segment.first code && nat_le code segment.last) ≡ false
out-false segment code (inl h) = grind (arith, nat_tests)
out-false segment code (inr h) = grind (arith, nat_tests)

-- the place in a segment's codes, or else in those of the segments behind, whose first has the place m
abbrev place_or_behind : ℕ → ℕ → List Segment → Option ℕ → Option ℕ
place_or_behind m code segments o = option_or o (code_place_from m (pos code) (codes_of segments))

abbrev place_by : ℕ → ℕ → Segment → List Segment → Bool → Option ℕ
place_by base code segment segments b = cond b (Some (base + place_in segment code)) (place_among base code segments)

abbrev is_in : Segment → ℕ → Bool
is_in segment code = nat_le segment.first code && nat_le code segment.last

outside-step : (base count code m : ℕ) (segment : Segment) (segments : List Segment) → code_place_from m (pos code) (codes_of segments) ≡ place_among base code segments →
    (code < segment.first) ⊎ (segment.last < code) → (code < segment.first) ⊎ (segment.first + (segment.last + 1 - segment.first) ≤ code) →
    place_or_behind m code segments (code_place_from (base + count) (pos code) (segment_codes segment)) ≡ place_by base code segment segments (is_in segment code)
outside-step base count code m segment segments rest out past =
    ap (place_or_behind m code segments) (outside_place (base + count) segment.first (segment.last + 1 - segment.first) code past)
    ∙ (rest ∙ ap (place_by base code segment segments) (sym (out-false segment code out)))

segment-step : (base count code m : ℕ) (segment : Segment) (segments : List Segment) → segment.before ≡ count → code_place_from m (pos code) (codes_of segments) ≡ place_among base code segments →
    (code < segment.first) ⊎ (segment.first ≤ code) → (segment.last < code) ⊎ (code ≤ segment.last) →
    place_or_behind m code segments (code_place_from (base + count) (pos code) (segment_codes segment)) ≡ place_by base code segment segments (is_in segment code)
segment-step base count code m segment segments counted rest (inl below) to = outside-step base count code m segment segments rest (inl below) (inl below)
segment-step base count code m segment segments counted rest (inr from) (inl above) = outside-step base count code m segment segments rest (inr above) (inr (omega (arith, from, above)))
segment-step base count code m segment segments counted rest (inr from) (inr to) =
    let place : (base + count) + (code - segment.first) ≡ base + place_in segment code = omega (arith, counted) in
    ap (place_or_behind m code segments) (inside_place (base + count) segment.first (segment.last + 1 - segment.first) code from (omega (arith, from, to)))
    ∙ (ap Some place ∙ ap (place_by base code segment segments) (sym (in-true segment code from to)))

codes_place : (base low count code : ℕ) (segments : List Segment) → are_in_order low count segments ≡ true → code_place_from (base + count) (pos code) (codes_of segments) ≡ place_among base code segments
codes_place base low count code [] h = refl
codes_place base low count code (segment ∷ segments) h =
    let tail = tail_in_order low count segment segments h in
    let m = (base + count) + length (segment_codes segment) in
    let long : length (segment_codes segment) ≡ segment.last + 1 - segment.first = length-segment_codes segment in
    let same : (base + count) + length (segment_codes segment) ≡ base + codes_to segment = omega (arith, long, tail.0.counted) in
    let rest : code_place_from m (pos code) (codes_of segments) ≡ place_among base code segments =
    ap (λ m. code_place_from m (pos code) (codes_of segments)) same ∙ codes_place base (segment.last + 1) (codes_to segment) code segments tail.1 in
    place-append (base + count) (pos code) (segment_codes segment) (codes_of segments)
    ∙ segment-step base count code m segment segments tail.0.counted rest (cases_lt code segment.first) (cases_lt segment.last code)

-- the last code is behind all
alone-none : (n code : ℕ) → code_place_from n (pos code) (missing_code ∷ []) ≡ None
alone-none n code = ap (λ b. cond b (Some n) None) (missing-neq code)

or-none : (o : Option ℕ) → option_or o None ≡ o
or-none None = refl
or-none (Some k) = refl

-- the place of a code in the list of n symbols and the segments behind
abbrev found_place : ℕ → ℕ → List Segment → Option ℕ
found_place n code segments = option_map (place_at n code segments) (segment_of segments code)

behind_place : (n m code : ℕ) (segments : List Segment) → m ≡ n → are_in_order 0 0 segments ≡ true → code_place_from m (pos code) (codes_of segments ++ missing_code ∷ []) ≡ found_place n code segments
behind_place n m code segments same h =
    let next : m ≡ n + 0 = omega (arith, same) in
    ap (λ m. code_place_from m (pos code) (codes_of segments ++ missing_code ∷ [])) next
    ∙ (place-append (n + 0) (pos code) (codes_of segments) (missing_code ∷ [])
    ∙ (ap (option_or (code_place_from (n + 0) (pos code) (codes_of segments))) (alone-none ((n + 0) + length (codes_of segments)) code)
    ∙ (or-none (code_place_from (n + 0) (pos code) (codes_of segments))
    ∙ (codes_place n 0 0 code segments h ∙ sym (among_segments n code [] segments)))))

abbrev place_in_front : ℕ → ℕ → List Segment → Option ℕ → Option ℕ
place_in_front n code segments o = option_or o (code_place_from (0 + length (codes_from 0 n)) (pos code) (codes_of segments ++ missing_code ∷ []))

count-step : (n code : ℕ) (segments : List Segment) → are_in_order 0 0 segments ≡ true → (code < n) ⊎ (n ≤ code) →
    place_in_front n code segments (code_place_from 0 (pos code) (codes_from 0 n)) ≡ cond (nat_lt code n) (Some code) (found_place n code segments)
count-step n code segments h (inl less) =
    let place : 0 + (code - 0) ≡ code = omega arith in
    ap (place_in_front n code segments) (inside_place 0 0 n code (omega arith) (omega arith))
    ∙ (ap Some place ∙ ap (λ t. cond t (Some code) (found_place n code segments)) (sym (lt-ltb code n less)))
count-step n code segments h (inr le) =
    let long : length (codes_from 0 n) ≡ n = length-codes_from 0 n in
    ap (place_in_front n code segments) (outside_place 0 0 n code (inr (omega arith)))
    ∙ (behind_place n (0 + length (codes_from 0 n)) code segments (omega (arith, long)) h ∙ ap (λ t. cond t (Some code) (found_place n code segments)) (sym (le-ltb code n le)))

symbol-test : (b : Bool) (code : ℕ) → nat_lt code (cond b 256 0) ≡ (b && nat_lt code 256)
symbol-test true code = refl
symbol-test false code = le-ltb code 0 (omega arith)

-- The first place of a code in the list is where its glyph stands.
pub code_place : (font : SfntFont) (code : ℕ) → IsSfntFont font → code_place_from 0 (pos code) (font_codes font) ≡ place_of_code font code
code_place font code is =
    place-append 0 (pos code) (codes_from 0 (symbol_count font)) (codes_of font.segments ++ missing_code ∷ [])
    ∙ (count-step (symbol_count font) code font.segments is.in_order (cases_lt code (symbol_count font))
    ∙ ap (λ t. cond t (Some code) (found_place (symbol_count font) code font.segments)) (symbol-test font.character_map.is_symbol code))

no_missing_codes : (n : ℕ) (segments : List Segment) → code_place_from n missing_code (codes_of segments) ≡ None
no_missing_codes n [] = refl
no_missing_codes n (segment ∷ segments) =
    place-append n missing_code (segment_codes segment) (codes_of segments)
    ∙ (ap (λ o. option_or o (code_place_from (n + length (segment_codes segment)) missing_code (codes_of segments))) (no_missing_place n segment.first (segment.last + 1 - segment.first))
    ∙ no_missing_codes (n + length (segment_codes segment)) segments)

missing_alone : (n : ℕ) → code_place_from n missing_code (missing_code ∷ []) ≡ Some n
missing_alone n = refl

-- The code of missing characters stands in the last place alone.
pub missing_place : (font : SfntFont) → IsSfntFont font → code_place_from 0 missing_code (font_codes font) ≡ Some (length (font_codes font) - 1)
missing_place font is =
    let n = length (codes_from 0 (symbol_count font)) in
    let m = length (codes_of font.segments) in
    let front : n ≡ symbol_count font = length-codes_from 0 (symbol_count font) in
    let long = length-font_codes font in
    let last : (0 + n) + m ≡ length (font_codes font) - 1 = omega (arith, front, long) in
    place-append 0 missing_code (codes_from 0 (symbol_count font)) (codes_of font.segments ++ missing_code ∷ [])
    ∙ (ap (λ o. option_or o (code_place_from (0 + n) missing_code (codes_of font.segments ++ missing_code ∷ []))) (no_missing_place 0 0 (symbol_count font))
    ∙ (place-append (0 + n) missing_code (codes_of font.segments) (missing_code ∷ [])
    ∙ (ap (λ o. option_or o (code_place_from ((0 + n) + m) missing_code (missing_code ∷ []))) (no_missing_codes (0 + n) font.segments)
    ∙ (missing_alone ((0 + n) + m) ∙ ap Some last))))

few_symbols : (b : Bool) → cond b 256 0 ≤ 256
few_symbols true = omega arith
few_symbols false = omega arith

count_after-most : (segments : List Segment) → are_in_order 0 0 segments ≡ true → count_after 0 segments ≤ max_code + 1
count_after-most [] h = omega arith
count_after-most (segment ∷ segments) h =
    let last : count_after (codes_to segment) segments ≡ codes_to (get_or (segment ∷ segments) (length segments) no_segment) = count_after-last 0 (segment ∷ segments) (length segments) no_segment (omega arith) in
    let most = codes_to-most (segment ∷ segments) h (length segments) no_segment (omega arith) in
    omega (arith, last, most)

-- how many codes the list has at most
pub font_codes_most : (font : SfntFont) → IsSfntFont font → length (font_codes font) ≤ max_codes
font_codes_most font is =
    let long = length-font_codes font in
    let all : 0 + length (codes_of font.segments) ≡ count_after 0 font.segments = length-codes_of 0 0 font.segments is.in_order in
    let most : count_after 0 font.segments ≤ max_code + 1 = count_after-most font.segments is.in_order in
    let symbols : symbol_count font ≤ 256 = few_symbols font.character_map.is_symbol in
    omega (arith, long, all, most, symbols)

-- ---- the glyph of a code

pub missing_glyph : (font : SfntFont) (code : ℤ) → code <ℤ pos 0 → glyph_of_code font code ≡ 0
missing_glyph font (pos n) below = absurd (grind (arith, ints))
missing_glyph font (negsuc n) below = refl

pub character_glyph : (font : SfntFont) (code : ℤ) (n : ℕ) → code ≡ pos n → glyph_of_code font code ≡ glyph_number font n
character_glyph font code n same = ap (glyph_of_code font) same
