-- The ranges of numbers and times, and numbers read as they were written.
use Rattle.std.proofs.Common.{◌≡◌, ℕ, suc, ◌+◌, ◌*◌, ◌/◌, ◌%◌, ◌^◌, ◌<◌, ◌≤◌, Bool, true, false, ◌&&◌, cond, List, [], ◌∷◌, ◌++◌, length, Option, Some, None, ℤ, pos, negsuc, neg_ℤ, ◌≤ℤ◌, refl, sym, ap, ◌∙◌, arith, inl, inr, length-append}
use Rattle.std.specs.Prelude.{option_and_then, codes}
use Rattle.std.specs.Char.{digit_value}
use Rattle.std.specs.Fmt.{decimal, signed_decimal}
use Rattle.std.specs.List.{All, AllPass, list_all}
use Rattle.std.proofs.lemmas.Fmt.{decimal_by_steps}
use Rattle.std.proofs.lemmas.Int.{ints}
use Rattle.std.proofs.lemmas.List.{append-nil}
use Rattle.std.proofs.lemmas.List.Elements.{All-nil, All-cons, All-head, All-push, All-weaker}
use Rattle.std.proofs.lemmas.Bool.Decides.{nat_tests}
use Rattle.ass_num.specs.Limits.{IsWithin, max_instant, max_whole}
use Rattle.ass_num.specs.Numerals.{is_blank, is_decimal, IsWholeNumber, number_of}
use Rattle.ass_num.proofs.NumberLaws.{number_of_push}
use Rattle.ass_num.proofs.Runs.{decimal_no_blank}
use Rattle.ass_num.proofs.WholeLaws.{whole_within, wholes_read}
use Rattle.ass_num.proofs.Clocks.{part_small}
use Rattle.ass_script.specs.Words.{is_comma}
use Rattle.ass_num.specs.Wholes.{whole_of}
use Rattle.ass_events.specs.Numbers.{time_of, order_in, order_of, whole_or_zero, instant_of}
use Rattle.ass_events.proofs.TimeLemmas.{shape_from_time}

-- ---- ranges

zero_small : (z : ℤ) → Some (pos 0) ≡ Some z → IsWithin max_whole z
zero_small z e = let is : pos 0 ≡ z = cc in (omega (arith, ints, is), omega (arith, ints, is))

pub number_small : (t : List ℕ) (z : ℤ) → whole_or_zero t ≡ Some z → IsWithin max_whole z
unfolding whole_or_zero
number_small t z e = cases (list_all is_blank t) e
  where
    cases : (b : Bool) → cond b (Some (pos 0)) (whole_of t) ≡ Some z → IsWithin max_whole z
    cases true e = zero_small z e
    cases false e = whole_within t z e

pub order_small : (t : List ℕ) (n : ℕ) → order_of t ≡ Some n → n ≤ max_whole
unfolding order_of
order_small t n e = cases (whole_of t) refl e
  where
    cases : (o : Option ℤ) → whole_of t ≡ o → option_and_then order_in o ≡ Some n → n ≤ max_whole
    cases None w e = absurd (cc)
    cases (Some (pos m)) w e = let is : m ≡ n = cc in omega (arith, ints, is, (whole_within t (pos m) w).1)
    cases (Some (negsuc m)) w e = absurd (cc)

-- a time of a line
pub record IsLineTime (t : ℤ) : Type 0 where
  pub least : pos 0 ≤ℤ t
  pub most : t ≤ℤ pos max_instant

time_small : (t : List ℕ) (z : ℤ) → time_of t ≡ Some z → IsLineTime z
time_small t z e =
    let m = shape_from_time t z e in
    let h = part_small m.hours m.hours_part in
    let i = part_small m.minutes m.minutes_part in
    let s = part_small m.seconds m.seconds_part in
    let c = part_small m.hundredths m.hundredths_part in
    bounded (number_of 10 m.hours) (number_of 10 m.minutes) (number_of 10 m.seconds) (number_of 10 m.hundredths) z h i s c m.value
  where
    bounded : (h i s c : ℕ) (z : ℤ) → h < 1000000 → i < 1000000 → s < 1000000 → c < 1000000 → z ≡ pos (((h * 60 + i) * 60 + s) * 1000 + c * 10) → IsLineTime z
    bounded h i s c z hh ii ss cc' e = record { least = omega (arith, ints, e); most = omega (arith, ints, e) }

pub instant_small : (t : List ℕ) (z : ℤ) → instant_of t ≡ Some z → IsLineTime z
unfolding instant_of
instant_small t z e = cases (list_all is_blank t) e
  where
    cases : (b : Bool) → cond b (Some (pos 0)) (time_of t) ≡ Some z → IsLineTime z
    cases true e = let is : pos 0 ≡ z = cc in record { least = omega (arith, ints, is); most = omega (arith, ints, is) }
    cases false e = time_small t z e

-- ---- written and read

-- the digits of a number
pub record AreDigits (n : ℕ) (digits : List ℕ) : Type 0 where
  pub all : AllPass is_decimal digits
  pub value : number_of 10 digits ≡ n
  pub some : 0 < length digits

pub decimal_digits : (n : ℕ) → n < 2 ^ 64 → AreDigits n (decimal n)
decimal_digits = decimal_by_steps AreDigits one more
  where
    digit : (d : ℕ) → d < 10 → is_decimal (48 + d) ≡ true
    digit d small = grind (arith, nat_tests)

    one : (n : ℕ) → n < 10 → AreDigits n ((48 + n) ∷ [])
    one n small = record {
      all = All-cons (λ c. is_decimal c ≡ true) (48 + n) [] (digit n small) (All-nil (λ c. is_decimal c ≡ true));
      value = grind (arith, nat_tests);
      some = omega arith;
    }

    value_of : (d : ℕ) → d < 10 → digit_value (48 + d) ≡ d
    value_of d small = grind (arith, nat_tests)

    more : (n : ℕ) (ds : List ℕ) → 10 ≤ n → AreDigits (n / 10) ds → AreDigits n (ds ++ ((48 + n % 10) ∷ []))
    more n ds large before = record {
      all = All-push (λ c. is_decimal c ≡ true) ds (48 + n % 10) before.all (digit (n % 10) (omega arith));
      value = number_of_push 10 ds (48 + n % 10) ∙ omega (arith, before.value, value_of (n % 10) (omega arith));
      some = omega (arith, length-append ds ((48 + n % 10) ∷ []));
    }

digits_whole : (digits : List ℕ) (n : ℕ) → n ≤ max_whole → AreDigits n digits → IsWholeNumber digits (pos n)
digits_whole digits n small d = record {
  before = [];
  sign = [];
  digits = digits;
  after = [];
  spelled = sym (append-nil digits);
  blanks_before = All-nil (λ c. is_blank c ≡ true);
  sign_or_none = inl refl;
  all_digits = d.all;
  some_digit = d.some;
  blanks_after = All-nil (λ c. is_blank c ≡ true);
  small = omega (arith, d.value);
  value = ap pos (sym d.value);
}

minus_whole : (digits : List ℕ) (n : ℕ) → suc n ≤ max_whole → AreDigits (suc n) digits → IsWholeNumber (45 ∷ digits) (negsuc n)
minus_whole digits n small d = record {
  before = [];
  sign = codes "-";
  digits = digits;
  after = [];
  spelled = ap (λ z. 45 ∷ z) (sym (append-nil digits));
  blanks_before = All-nil (λ c. is_blank c ≡ true);
  sign_or_none = inr (inr refl);
  all_digits = d.all;
  some_digit = d.some;
  blanks_after = All-nil (λ c. is_blank c ≡ true);
  small = omega (arith, d.value);
  value = ap (λ z. neg_ℤ (pos z)) (sym d.value);
}

number_fits : (z : ℤ) → IsWithin max_whole z → (n : ℕ) → z ≡ pos n → n ≤ max_whole
number_fits z small n e = omega (arith, ints, e, small.1)

minus_fits : (n : ℕ) → IsWithin max_whole (negsuc n) → suc n ≤ max_whole
minus_fits n small = omega (arith, ints, small.0)

pub order-decimal : (n : ℕ) → n ≤ max_whole → order_of (decimal n) ≡ Some n
unfolding order_of
order-decimal n small = ap (option_and_then order_in) ((wholes_read (decimal n) (pos n)).1 (digits_whole (decimal n) n small (decimal_digits n (omega arith))))

digits_not_empty : (digits : List ℕ) → AllPass is_decimal digits → 0 < length digits → list_all is_blank digits ≡ false
digits_not_empty [] all some = absurd (omega arith)
digits_not_empty (c ∷ cs) all some = ap (λ b. b && list_all is_blank cs) (decimal_no_blank c (All-head (λ z. is_decimal z ≡ true) c cs all))

pub number-signed_decimal : (z : ℤ) → IsWithin max_whole z → whole_or_zero (signed_decimal z) ≡ Some z
unfolding whole_or_zero
number-signed_decimal (pos n) small =
    let fits = number_fits (pos n) small n refl in
    let d = decimal_digits n (omega arith) in
    ap (λ b. cond b (Some (pos 0)) (whole_of (decimal n))) (digits_not_empty (decimal n) d.all d.some) ∙ (wholes_read (decimal n) (pos n)).1 (digits_whole (decimal n) n fits d)
number-signed_decimal (negsuc n) small =
    let fits = minus_fits n small in
    (wholes_read (45 ∷ decimal (suc n)) (negsuc n)).1 (minus_whole (decimal (suc n)) n fits (decimal_digits (suc n) (omega arith)))

digits_no_comma : (digits : List ℕ) → AllPass is_decimal digits → All (λ c. is_comma c ≡ false) digits
digits_no_comma digits all = All-weaker (λ c. is_decimal c ≡ true) (λ c. is_comma c ≡ false) differs digits all
  where
    differs : (c : ℕ) → is_decimal c ≡ true → is_comma c ≡ false
    differs c passes = grind (arith, nat_tests)

pub decimal_no_comma : (n : ℕ) → n ≤ max_whole → All (λ c. is_comma c ≡ false) (decimal n)
decimal_no_comma n small = digits_no_comma (decimal n) (decimal_digits n (omega arith)).all

pub signed_no_comma : (z : ℤ) → IsWithin max_whole z → All (λ c. is_comma c ≡ false) (signed_decimal z)
signed_no_comma (pos n) small = let fits = number_fits (pos n) small n refl in decimal_no_comma n fits
signed_no_comma (negsuc n) small = let fits = minus_fits n small in All-cons (λ c. is_comma c ≡ false) 45 (decimal (suc n)) refl (digits_no_comma (decimal (suc n)) (decimal_digits (suc n) (omega arith)).all)
