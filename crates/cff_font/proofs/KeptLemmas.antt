-- The digits that are kept of a real number give its value.
use Rattle.std.proofs.Common.{◌≡◌, ℕ, zero, suc, ◌+◌, ◌-◌, ◌*◌, ◌/◌, ◌^◌, ◌<◌, ◌≤◌, ◌⊎◌, inl, inr, Bool, true, false, nat_lt, min, subst, sym, ap, ◌∙◌, arith}
use Rattle.std.proofs.Math.Nat.{one-le-pow, pow-succ', pow-le-pow_right, div-one, div-div-eq-div-mul, div-eq_of_lt, div-lt_iff_lt-mul, mul-div_cancel, div-mul-le_self, mul-le-mul, mul-le-mul_right, min-eq_right, mul_assoc}
use Rattle.std.proofs.lemmas.Nat.{pow-add, le-div}
use Rattle.std.proofs.lemmas.Bool.{cases_lt, lt-ltb}
use Rattle.cff_font.specs.declared.reals.Digits.{Digits}
use Rattle.cff_font.specs.declared.reals.Real.{Real}
use Rattle.cff_font.specs.KeptReals.{nineteen_digits, max_exponent, AreDigitsOf, IsKeptOf, IsReal}
use Rattle.cff_font.specs.Reals.{max_decimal, ExactReal, with_digit, half_read, byte_read, raised_by, lowered_by, scaled_by, size_of_real}

-- ---- powers of ten

pub ten_to : (exponent : ℕ) → 0 < 10 ^ exponent
ten_to exponent = one-le-pow exponent 10 (omega arith)

tens_grow : (i j : ℕ) → i ≤ j → 10 ^ i ≤ 10 ^ j
tens_grow i j h = pow-le-pow_right (omega arith) h

none_times : (n : ℕ) → 0 * n ≡ 0
none_times n = omega arith

-- numbers beyond 1,000 count the same
both_held : (a b : ℕ) → max_decimal ≤ a → max_decimal ≤ b → min a max_decimal ≡ min b max_decimal
both_held a b ha hb = min-eq_right ha ∙ sym (min-eq_right hb)

beyond : (k e : ℕ) → 18 ≤ e → max_decimal ≤ suc k * 10 ^ e
beyond k e far =
    let one : 1 ≤ suc k = omega arith in
    let power : 10 ^ 18 ≤ 10 ^ e = tens_grow 18 e far in
    mul-le-mul one power

pub raised_far : (value e : ℕ) → min (value * 10 ^ min e 18) max_decimal ≡ min (value * 10 ^ e) max_decimal
raised_far value e = sides (cases_lt e 18)
  where
    far : (value : ℕ) → 18 ≤ e → min (value * 10 ^ min e 18) max_decimal ≡ min (value * 10 ^ e) max_decimal
    far zero h = ap (λ v. min v max_decimal) (none_times (10 ^ min e 18) ∙ sym (none_times (10 ^ e)))
    far (suc k) h = both_held _ _ (beyond k (min e 18) (omega arith)) (beyond k e h)

    sides : (e < 18) ⊎ (18 ≤ e) → min (value * 10 ^ min e 18) max_decimal ≡ min (value * 10 ^ e) max_decimal
    sides (inl near) = let same : min e 18 ≡ e = omega arith in ap (λ x. min (value * 10 ^ x) max_decimal) same
    sides (inr h) = far value h

pub lowered_far : (value e : ℕ) → value < 10 * nineteen_digits → value / 10 ^ min e 19 ≡ value / 10 ^ e
lowered_far value e few = sides (cases_lt e 19)
  where
    none : (x : ℕ) → 19 ≤ x → value / 10 ^ x ≡ 0
    none x h = let grows : 10 ^ 19 ≤ 10 ^ x = tens_grow 19 x h in let less : value < 10 ^ x = omega arith in div-eq_of_lt less

    sides : (e < 19) ⊎ (19 ≤ e) → value / 10 ^ min e 19 ≡ value / 10 ^ e
    sides (inl near) = let same : min e 19 ≡ e = omega arith in ap (λ x. value / 10 ^ x) same
    sides (inr h) = let low : 19 ≤ min e 19 = omega arith in none (min e 19) low ∙ sym (none e h)

-- ---- one digit more

pub digit_kept : (n : ℕ) (digits : Digits) (digit : ℕ) → digit < 10 → digits.kept < nineteen_digits → AreDigitsOf n digits →
    AreDigitsOf (n * 10 + digit) (record { kept = digits.kept * 10 + digit; dropped = digits.dropped })
digit_kept n digits digit less room are = sides are.full
  where
    sides : (digits.dropped ≡ 0) ⊎ (nineteen_digits ≤ digits.kept) → AreDigitsOf (n * 10 + digit) (record { kept = digits.kept * 10 + digit; dropped = digits.dropped })
    sides (inl none) =
        let whole : (m : ℕ) → m / 10 ^ digits.dropped ≡ m = λ m. ap (λ d. m / 10 ^ d) none ∙ div-one m in
        let same : digits.kept ≡ n = are.kept ∙ whole n in
        record { kept = ap (λ k. k * 10 + digit) same ∙ sym (whole (n * 10 + digit)); few = omega arith; full = inl none }
    sides (inr enough) = absurd (omega arith)

pub digit_dropped : (n : ℕ) (digits : Digits) (digit : ℕ) → digit < 10 → nineteen_digits ≤ digits.kept → AreDigitsOf n digits →
    AreDigitsOf (n * 10 + digit) (record { kept = digits.kept; dropped = digits.dropped + 1 })
digit_dropped n digits digit less enough are =
    let tenth : (n * 10 + digit) / 10 ≡ n = omega arith in
    let next : 10 ^ (digits.dropped + 1) ≡ 10 * 10 ^ digits.dropped = ap (λ x. 10 ^ x) (omega arith) ∙ pow-succ' 10 digits.dropped in
    let cut : (n * 10 + digit) / 10 ^ (digits.dropped + 1) ≡ n / 10 ^ digits.dropped =
    ap (λ p. (n * 10 + digit) / p) next ∙ (sym (div-div-eq-div-mul (n * 10 + digit) 10 (10 ^ digits.dropped)) ∙ ap (λ m. m / 10 ^ digits.dropped) tenth) in
    record { kept = are.kept ∙ sym cut; few = are.few; full = inr enough }

-- ---- the value of the digits that are kept

cancelled : (n r x : ℕ) → n * 10 ^ r / 10 ^ (r + x) ≡ n / 10 ^ x
cancelled n r x =
    ap (λ p. n * 10 ^ r / p) (pow-add 10 r x) ∙ (sym (div-div-eq-div-mul (n * 10 ^ r) (10 ^ r) (10 ^ x)) ∙ ap (λ q. q / 10 ^ x) (mul-div_cancel n (ten_to r)))

cancelled_whole : (n l x : ℕ) → n * 10 ^ (x + l) / 10 ^ l ≡ n * 10 ^ x
cancelled_whole n l x =
    ap (λ q. q / 10 ^ l) (ap (λ p. n * p) (pow-add 10 x l) ∙ sym (mul_assoc n (10 ^ x) (10 ^ l))) ∙ mul-div_cancel (n * 10 ^ x) (ten_to l)

pub scaled_down : (n : ℕ) (digits : Digits) (raising lowering : ℕ) → AreDigitsOf n digits → raising + digits.dropped ≤ lowering →
    min (digits.kept / 10 ^ (lowering - (raising + digits.dropped))) max_decimal ≡ scaled_by n raising lowering
scaled_down n digits raising lowering are below =
    let d = digits.dropped in
    let x = lowering - (raising + d) in
    let split : lowering ≡ raising + (d + x) = omega arith in
    let whole : n * 10 ^ raising / 10 ^ lowering ≡ n / 10 ^ d / 10 ^ x =
    ap (λ l. n * 10 ^ raising / 10 ^ l) split
    ∙ (cancelled n raising (d + x) ∙ (ap (λ p. n / p) (pow-add 10 d x) ∙ sym (div-div-eq-div-mul n (10 ^ d) (10 ^ x)))) in
    ap (λ v. min v max_decimal) (ap (λ k. k / 10 ^ x) are.kept ∙ sym whole)

-- Nineteen digits times a whole power of ten are beyond 1,000.
far_up : (n : ℕ) (digits : Digits) (raising lowering : ℕ) → AreDigitsOf n digits → nineteen_digits ≤ digits.kept → lowering ≤ raising + digits.dropped →
    max_decimal ≤ n * 10 ^ raising / 10 ^ lowering
far_up n digits raising lowering are enough above =
    let d = digits.dropped in
    let kept : digits.kept * 10 ^ d ≤ n = rw are.kept (div-mul-le_self n (10 ^ d)) in
    let first : max_decimal * 10 ^ lowering ≤ digits.kept * 10 ^ (d + raising) = mul-le-mul enough (tens_grow lowering (d + raising) (omega arith)) in
    let parts : digits.kept * 10 ^ (d + raising) ≡ digits.kept * 10 ^ d * 10 ^ raising =
    ap (λ p. digits.kept * p) (pow-add 10 d raising) ∙ sym (mul_assoc digits.kept (10 ^ d) (10 ^ raising)) in
    let second : digits.kept * 10 ^ d * 10 ^ raising ≤ n * 10 ^ raising = mul-le-mul_right (10 ^ raising) kept in
    le-div max_decimal (n * 10 ^ raising) (10 ^ lowering) (ten_to lowering) (omega (arith, first, parts, second))

pub scaled_up : (n : ℕ) (digits : Digits) (raising lowering : ℕ) → AreDigitsOf n digits → lowering ≤ raising + digits.dropped →
    min (digits.kept * 10 ^ (raising + digits.dropped - lowering)) max_decimal ≡ scaled_by n raising lowering
scaled_up n digits raising lowering are above = sides are.full
  where
    sides : (digits.dropped ≡ 0) ⊎ (nineteen_digits ≤ digits.kept) → min (digits.kept * 10 ^ (raising + digits.dropped - lowering)) max_decimal ≡ scaled_by n raising lowering
    sides (inl none) =
        let same : digits.kept ≡ n = are.kept ∙ (ap (λ d. n / 10 ^ d) none ∙ div-one n) in
        let power : raising + digits.dropped - lowering ≡ raising - lowering = omega arith in
        let split : raising ≡ raising - lowering + lowering = omega arith in
        let whole : n * 10 ^ raising / 10 ^ lowering ≡ n * 10 ^ (raising - lowering) =
        ap (λ r. n * 10 ^ r / 10 ^ lowering) split ∙ cancelled_whole n lowering (raising - lowering) in
        ap (λ v. min v max_decimal) (ap (λ k. k * 10 ^ (raising + digits.dropped - lowering)) same ∙ (ap (λ e. n * 10 ^ e) power ∙ sym whole))
    sides (inr enough) =
        let power : 1 ≤ 10 ^ (raising + digits.dropped - lowering) = ten_to (raising + digits.dropped - lowering) in
        let more : max_decimal ≤ digits.kept * 10 ^ (raising + digits.dropped - lowering) = mul-le-mul enough power in
        both_held _ _ more (far_up n digits raising lowering are enough above)

-- ---- exponents beyond the greatest one

far_raised : (n places e : ℕ) → places + 3 ≤ e → max_decimal ≤ suc n * 10 ^ (15 + e) / 10 ^ places
far_raised n places e far =
    let split : max_decimal * 10 ^ places ≡ 10 ^ (18 + places) = sym (pow-add 10 18 places) in
    let grows : 10 ^ (18 + places) ≤ 10 ^ (15 + e) = tens_grow (18 + places) (15 + e) (omega arith) in
    let times : 1 * 10 ^ (15 + e) ≤ suc n * 10 ^ (15 + e) = mul-le-mul_right (10 ^ (15 + e)) (omega arith) in
    le-div max_decimal (suc n * 10 ^ (15 + e)) (10 ^ places) (ten_to places) (omega (arith, split, grows, times))

raised_held : (n places e : ℕ) → places ≤ 2 ^ 66 → scaled_by n (15 + min e max_exponent) places ≡ scaled_by n (15 + e) places
raised_held n places e few = sides (cases_lt e max_exponent)
  where
    far : (n : ℕ) → max_exponent ≤ e → scaled_by n (15 + min e max_exponent) places ≡ scaled_by n (15 + e) places
    far zero h = ap (λ v. min (v / 10 ^ places) max_decimal) (none_times (10 ^ (15 + min e max_exponent)) ∙ sym (none_times (10 ^ (15 + e))))
    far (suc k) h = both_held _ _ (far_raised k places (min e max_exponent) (omega arith)) (far_raised k places e (omega arith))

    sides : (e < max_exponent) ⊎ (max_exponent ≤ e) → scaled_by n (15 + min e max_exponent) places ≡ scaled_by n (15 + e) places
    sides (inl near) = let same : min e max_exponent ≡ e = omega arith in ap (λ x. scaled_by n (15 + x) places) same
    sides (inr h) = far n h

far_lowered : (n d l : ℕ) → n / 10 ^ d < 10 * nineteen_digits → d + 34 ≤ l → n * 10 ^ 15 / 10 ^ l ≡ 0
far_lowered n d l few far =
    let less : n < 10 ^ 19 * 10 ^ d = (div-lt_iff_lt-mul (ten_to d)).0 few in
    let power : 10 ^ (34 + d) ≡ 10 ^ 34 * 10 ^ d = pow-add 10 34 d in
    let grows : 10 ^ (34 + d) ≤ 10 ^ l = tens_grow (34 + d) l (omega arith) in
    let below : n * 10 ^ 15 < 10 ^ l = omega (arith, less, power, grows) in
    div-eq_of_lt below

lowered_held : (n d places e : ℕ) → d ≤ 2 ^ 66 → n / 10 ^ d < 10 * nineteen_digits → scaled_by n 15 (places + min e max_exponent) ≡ scaled_by n 15 (places + e)
lowered_held n d places e few small = sides (cases_lt e max_exponent)
  where
    sides : (e < max_exponent) ⊎ (max_exponent ≤ e) → scaled_by n 15 (places + min e max_exponent) ≡ scaled_by n 15 (places + e)
    sides (inl near) = let same : min e max_exponent ≡ e = omega arith in ap (λ x. scaled_by n 15 (places + x)) same
    sides (inr h) =
        ap (λ v. min v max_decimal)
        (far_lowered n d (places + min e max_exponent) small (omega arith) ∙ sym (far_lowered n d (places + e) small (omega arith)))

pub size_kept : (halves : ℕ) (exact : ExactReal) (real : Real) (is_divided : Bool) → halves ≤ 2 ^ 66 → IsKeptOf halves exact real →
    scaled_by exact.digits (raised_by is_divided real.exponent) (lowered_by is_divided real.places real.exponent)
    ≡ scaled_by exact.digits (raised_by is_divided exact.exponent) (lowered_by is_divided exact.places exact.exponent)
size_kept halves exact real true few kept =
    let small : exact.digits / 10 ^ real.digits.dropped < 10 * nineteen_digits = rw (sym kept.digits.kept) kept.digits.few in
    rw (kept.places, kept.exponent) (lowered_held exact.digits real.digits.dropped exact.places exact.exponent (omega (arith, kept.dropped)) small)
size_kept halves exact real false few kept =
    rw (kept.places, kept.exponent) (raised_held exact.digits exact.places exact.exponent (omega (arith, kept.few, kept.places)))

pub size_by : (halves : ℕ) (exact : ExactReal) (real : Real) (is_divided : Bool) → halves ≤ 2 ^ 66 → IsKeptOf halves exact real → real.marks.is_divided ≡ is_divided →
    scaled_by exact.digits (raised_by is_divided real.exponent) (lowered_by is_divided real.places real.exponent) ≡ size_of_real exact
size_by halves exact real is_divided few kept is =
    let sign : is_divided ≡ exact.marks.is_divided = sym is ∙ ap (λ m. m.is_divided) kept.marks in
    size_kept halves exact real is_divided few kept
    ∙ ap (λ b. scaled_by exact.digits (raised_by b exact.exponent) (lowered_by b exact.places exact.exponent)) sign

pub real_of : (halves : ℕ) (exact : ExactReal) (real : Real) → halves ≤ 2 ^ 66 → IsKeptOf halves exact real → IsReal real
real_of halves exact real few kept = record {
  kept = kept.digits.few;
  dropped = omega (arith, kept.dropped);
  places = omega (arith, kept.few);
  exponent = omega (arith, kept.exponent);
}

-- ---- halves of bytes

pub half_digit : (halves : ℕ) (exact : ExactReal) (real read : Real) (half : ℕ) → half < 10 → real.marks ≡ exact.marks →
    IsKeptOf (halves + 1) (with_digit exact half real.marks.part) read → IsKeptOf (halves + 1) (half_read exact half) read
half_digit halves exact real read half less same kept =
    let yes : nat_lt half 10 ≡ true = lt-ltb half 10 less in
    let here : IsKeptOf (halves + 1) (with_digit exact half exact.marks.part) read = subst (λ m. IsKeptOf (halves + 1) (with_digit exact half m.part) read) same kept in
    rw yes here

pub kept_twice : (i : ℕ) (exact : ExactReal) (real first second : Real) (b : ℕ) → IsKeptOf (2 * i) exact real →
    (IsKeptOf (2 * i) exact real → IsKeptOf (2 * i + 1) (half_read exact (b / 16)) first) →
    (IsKeptOf (2 * i + 1) (half_read exact (b / 16)) first → IsKeptOf (2 * i + 1 + 1) (byte_read exact b) second) →
    IsKeptOf (2 * (i + 1)) (byte_read exact b) second
kept_twice i exact real first second b kept upper lower =
    let count : 2 * i + 1 + 1 ≡ 2 * (i + 1) = omega arith in
    subst (λ n. IsKeptOf n (byte_read exact b) second) count (lower (upper kept))
