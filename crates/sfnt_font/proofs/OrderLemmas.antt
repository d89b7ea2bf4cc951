-- Segments in order, and the one that has a code.
use Rattle.std.proofs.Common.{◌≡◌, ℕ, zero, suc, ◌+◌, ◌<◌, ◌≤◌, List, [], ◌∷◌, ◌++◌, length, get_or, true, false, ◌&&◌, Some, None, ◌⊎◌, inl, inr, le_refl, refl, ap, ◌∙◌, arith}
use Rattle.std.specs.Prelude.{nat_lt, nat_le}
use Rattle.std.specs.List.Sorted.{IsPartitionPoint, IsPartitionedBy}
use Rattle.std.proofs.lemmas.Bool.{cases_lt, ltb-true, ltb-false, and_parts, and_from}
use Rattle.std.proofs.lemmas.Bool.Decides.{nat_tests}
use Rattle.sfnt_font.specs.declared.segments.Segment.{Segment}
use Rattle.sfnt_font.specs.Maps.{IsBehind, codes_to, max_code}
use Rattle.sfnt_font.specs.Ranges.{stands_behind, are_in_order}
use Rattle.sfnt_font.specs.Fonts.{segment_from, segment_of}

-- ---- in order

abbrev pub low_after : ℕ → List Segment → ℕ
low_after low [] = low
low_after low (segment ∷ segments) = low_after (segment.last + 1) segments

abbrev pub count_after : ℕ → List Segment → ℕ
count_after count [] = count
count_after count (segment ∷ segments) = count_after (codes_to segment) segments

stands_behind-true : (low count : ℕ) (segment : Segment) → IsBehind low count segment → stands_behind low count segment ≡ true
stands_behind-true low count segment h = grind (arith, nat_tests)

IsBehind-test : (low count : ℕ) (segment : Segment) → stands_behind low count segment ≡ true → IsBehind low count segment
IsBehind-test low count segment h = record {
  behind = grind (arith, nat_tests);
  ascends = grind (arith, nat_tests);
  most = grind (arith, nat_tests);
  counted = grind (arith, nat_tests);
}

pub in_order-push : (low count : ℕ) (segments : List Segment) (segment : Segment) → are_in_order low count segments ≡ true → IsBehind (low_after low segments) (count_after count segments) segment →
    are_in_order low count (segments ++ segment ∷ []) ≡ true
in_order-push low count [] segment h behind = and_from (stands_behind low count segment) true (stands_behind-true low count segment behind) refl
in_order-push low count (first ∷ segments) segment h behind =
    let parts = and_parts (stands_behind low count first) (are_in_order (first.last + 1) (codes_to first) segments) h in
    and_from (stands_behind low count first) (are_in_order (first.last + 1) (codes_to first) (segments ++ segment ∷ [])) parts.0
    (in_order-push (first.last + 1) (codes_to first) segments segment parts.1 behind)

pub low_after-push : (low : ℕ) (segments : List Segment) (segment : Segment) → low_after low (segments ++ segment ∷ []) ≡ segment.last + 1
low_after-push low [] segment = refl
low_after-push low (first ∷ segments) segment = low_after-push (first.last + 1) segments segment

pub count_after-push : (count : ℕ) (segments : List Segment) (segment : Segment) → count_after count (segments ++ segment ∷ []) ≡ codes_to segment
count_after-push count [] segment = refl
count_after-push count (first ∷ segments) segment = count_after-push (codes_to first) segments segment

-- ---- ascending

pub tail_in_order : (low count : ℕ) (first : Segment) (segments : List Segment) → are_in_order low count (first ∷ segments) ≡ true → IsBehind low count first × (are_in_order (first.last + 1) (codes_to first) segments ≡ true)
tail_in_order low count first segments h =
    let parts = and_parts (stands_behind low count first) (are_in_order (first.last + 1) (codes_to first) segments) h in
    (IsBehind-test low count first parts.0, parts.1)

from_low : (low count : ℕ) (segments : List Segment) → are_in_order low count segments ≡ true → (j : ℕ) (d : Segment) → j < length segments → low ≤ (get_or segments j d).first
from_low low count [] h j d less = absurd (omega arith)
from_low low count (first ∷ segments) h zero d less = (tail_in_order low count first segments h).0.behind
from_low low count (first ∷ segments) h (suc j) d less =
    let tail = tail_in_order low count first segments h in
    let facts : IsBehind low count first = tail.0 in
    let later : first.last + 1 ≤ (get_or segments j d).first = from_low (first.last + 1) (codes_to first) segments tail.1 j d (omega arith) in
    omega (arith, facts.behind, facts.ascends)

pub ascends_at : (low count : ℕ) (segments : List Segment) → are_in_order low count segments ≡ true → (j : ℕ) (d : Segment) → j < length segments → (get_or segments j d).first ≤ (get_or segments j d).last
ascends_at low count [] h j d less = absurd (omega arith)
ascends_at low count (first ∷ segments) h zero d less = (tail_in_order low count first segments h).0.ascends
ascends_at low count (first ∷ segments) h (suc j) d less = ascends_at (first.last + 1) (codes_to first) segments (tail_in_order low count first segments h).1 j d (omega arith)

-- a segment ends before the next begins
apart : (low count : ℕ) (segments : List Segment) → are_in_order low count segments ≡ true → (i j : ℕ) (d : Segment) → i < j → j < length segments → (get_or segments i d).last < (get_or segments j d).first
apart low count [] h i j d le less = absurd (omega arith)
apart low count (first ∷ segments) h i zero d le less = absurd (omega arith)
apart low count (first ∷ segments) h zero (suc j) d le less =
    let later : first.last + 1 ≤ (get_or segments j d).first = from_low (first.last + 1) (codes_to first) segments (tail_in_order low count first segments h).1 j d (omega arith) in
    omega arith
apart low count (first ∷ segments) h (suc i) (suc j) d le less = apart (first.last + 1) (codes_to first) segments (tail_in_order low count first segments h).1 i j d (omega arith) (omega arith)

-- the last codes rise
rises : (segments : List Segment) → are_in_order 0 0 segments ≡ true → (i j : ℕ) (d : Segment) → i ≤ j → j < length segments → (get_or segments i d).last ≤ (get_or segments j d).last
rises segments h i j d le less = sides (cases_lt i j)
  where
    sides : (i < j) ⊎ (j ≤ i) → (get_or segments i d).last ≤ (get_or segments j d).last
    sides (inl before) =
        let far : (get_or segments i d).last < (get_or segments j d).first = apart 0 0 segments h i j d before less in
        let up : (get_or segments j d).first ≤ (get_or segments j d).last = ascends_at 0 0 segments h j d less in
        omega arith
    sides (inr behind) = let same : i ≡ j = omega arith in rw same (le_refl (get_or segments j d).last)

-- the numbers of each segment
pub facts_at : (low count : ℕ) (segments : List Segment) → are_in_order low count segments ≡ true → (j : ℕ) (d : Segment) → j < length segments → count ≤ low →
    ((get_or segments j d).before ≤ (get_or segments j d).first) × ((get_or segments j d).last ≤ max_code)
facts_at low count [] h j d less fits = absurd (omega arith)
facts_at low count (first ∷ segments) h zero d less fits =
    let facts : IsBehind low count first = (tail_in_order low count first segments h).0 in
    (omega (arith, facts.behind, facts.counted), facts.most)
facts_at low count (first ∷ segments) h (suc j) d less fits =
    let tail = tail_in_order low count first segments h in
    let facts : IsBehind low count first = tail.0 in
    facts_at (first.last + 1) (codes_to first) segments tail.1 j d (omega arith) (omega (arith, facts.behind, facts.ascends, facts.counted))

lt-true : (a b : ℕ) → a < b → nat_lt a b ≡ true
lt-true a b h = grind (arith, nat_tests)

pub is_parted : (segments : List Segment) (code : ℕ) → are_in_order 0 0 segments ≡ true → IsPartitionedBy (λ segment. nat_lt segment.last code) segments
is_parted segments code h i j d le less below =
    let up : (get_or segments i d).last ≤ (get_or segments j d).last = rises segments h i j d le less in
    let under : (get_or segments j d).last < code = ltb-true (get_or segments j d).last code below in
    lt-true (get_or segments i d).last code (omega arith)

-- ---- the segment that has a code

above-false : (segment : Segment) (code : ℕ) → segment.last < code → (nat_le segment.first code && nat_le code segment.last) ≡ false
above-false segment code h = grind (arith, nat_tests)

below-false : (segment : Segment) (code : ℕ) → code < segment.first → (nat_le segment.first code && nat_le code segment.last) ≡ false
below-false segment code h = grind (arith, nat_tests)

inside-true : (segment : Segment) (code : ℕ) → segment.first ≤ code → code ≤ segment.last → (nat_le segment.first code && nat_le code segment.last) ≡ true
inside-true segment code h k = grind (arith, nat_tests)

pub segment_from-there : (segments : List Segment) (k code at : ℕ) (d : Segment) → at < length segments →
    ((j : ℕ) → j < at → (get_or segments j d).last < code) → (get_or segments at d).first ≤ code → code ≤ (get_or segments at d).last → segment_from k code segments ≡ Some (k + at)
segment_from-there [] k code at d room before first last = absurd (omega arith)
segment_from-there (segment ∷ segments) k code zero d room before first last = let here = inside-true segment code first last in rw here (ap Some (omega arith))
segment_from-there (segment ∷ segments) k code (suc at) d room before first last =
    let here = above-false segment code (before 0 (omega arith)) in
    rw here (segment_from-there segments (k + 1) code at d (omega arith) (λ j less. before (suc j) (omega arith)) first last ∙ ap Some (omega arith))

pub segment_from-nowhere : (segments : List Segment) (k code : ℕ) (d : Segment) →
    ((j : ℕ) → j < length segments → (nat_le (get_or segments j d).first code && nat_le code (get_or segments j d).last) ≡ false) → segment_from k code segments ≡ None
segment_from-nowhere [] k code d other = refl
segment_from-nowhere (segment ∷ segments) k code d other =
    let here = other 0 (omega arith) in
    rw here (segment_from-nowhere segments (k + 1) code d (λ j less. other (suc j) (omega arith)))

-- ---- halving

pub segment_of-there : (segments : List Segment) (code at : ℕ) (d : Segment) → IsPartitionPoint (λ segment. nat_lt segment.last code ≡ true) (λ segment. nat_lt segment.last code ≡ false) segments at →
    at < length segments → (get_or segments at d).first ≤ code → segment_of segments code ≡ Some at
segment_of-there segments code at d point room first =
    segment_from-there segments 0 code at d room (λ j less. ltb-true (get_or segments j d).last code (point.0 j d (omega arith) less)) first
    (ltb-false (get_or segments at d).last code (point.1 at d (le_refl at) room))
    ∙ ap Some (omega arith)

pub segment_of-nowhere : (segments : List Segment) (code at : ℕ) (d : Segment) → are_in_order 0 0 segments ≡ true →
    IsPartitionPoint (λ segment. nat_lt segment.last code ≡ true) (λ segment. nat_lt segment.last code ≡ false) segments at →
    (at < length segments → code < (get_or segments at d).first) → segment_of segments code ≡ None
segment_of-nowhere segments code at d h point other = segment_from-nowhere segments 0 code d (λ j room. sides j room (cases_lt j at))
  where
    behind : (j : ℕ) → j < length segments → at < j → code < (get_or segments j d).first
    behind j room later =
        let far : (get_or segments at d).last < (get_or segments j d).first = apart 0 0 segments h at j d later room in
        let up : (get_or segments at d).first ≤ (get_or segments at d).last = ascends_at 0 0 segments h at d (omega arith) in
        let here : code < (get_or segments at d).first = other (omega arith) in
        omega arith

    from : (j : ℕ) → j < length segments → at ≤ j → (at < j) ⊎ (j ≤ at) → code < (get_or segments j d).first
    from j room le (inl later) = behind j room later
    from j room le (inr sooner) = let same : j ≡ at = omega arith in rw same (other (omega arith))

    sides : (j : ℕ) → j < length segments → (j < at) ⊎ (at ≤ j) → (nat_le (get_or segments j d).first code && nat_le code (get_or segments j d).last) ≡ false
    sides j room (inl less) = above-false (get_or segments j d) code (ltb-true (get_or segments j d).last code (point.0 j d (omega arith) less))
    sides j room (inr le) = below-false (get_or segments j d) code (from j room le (cases_lt at j))
