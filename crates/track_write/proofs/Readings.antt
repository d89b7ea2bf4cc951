-- Numbers, times and colours are read as they were written.
use Rattle.std.proofs.Common.{◌≡◌, ℕ, suc, ◌+◌, ◌*◌, ◌/◌, ◌%◌, ◌^◌, ◌<◌, ◌≤◌, min, Bool, true, false, cond, eqb, ltb, ◌&&◌, List, [], ◌∷◌, ◌++◌, length, get_or, take, drop, Some, None, ℤ, pos, negsuc, neg_ℤ, ◌≤ℤ◌, refl, sym, ap, ◌∙◌, arith, inl, inr, length-append, append_assoc}
use Rattle.std.specs.Prelude.{codes}
use Rattle.std.specs.Char.{digit_value}
use Rattle.std.specs.Fmt.{decimal, signed_decimal}
use Rattle.std.specs.Int.{int_max}
use Rattle.std.specs.List.{AllPass, prefix_len, list_all}
use Rattle.std.specs.Option.{option_map}
use Rattle.std.proofs.Math.Seq.{take-append_seam, drop-append-add}
use Rattle.std.proofs.lemmas.Bool.Decides.{nat_tests}
use Rattle.std.proofs.lemmas.Fmt.{length-decimal-le}
use Rattle.std.proofs.lemmas.Int.{ints}
use Rattle.std.proofs.lemmas.List.{append-nil, get_or_at}
use Rattle.std.proofs.lemmas.List.Elements.{All-nil, All-cons, All-head}
use Rattle.ass_num.specs.Limits.{IsWithin, IsHeldNumber, max_held, max_whole}
use Rattle.ass_num.specs.Numerals.{is_blank, is_decimal, sign_len, number_of, signed, IsWholeNumber, IsTimePart}
use Rattle.ass_num.specs.Wholes.{whole_of}
use Rattle.ass_num.proofs.OrderLemmas.{lt_false}
use Rattle.ass_num.proofs.Runs.{prefix_len-append, prefix_len_all, decimal_no_sign, decimal_no_blank}
use Rattle.ass_num.proofs.WholeLaws.{wholes_read}
use Rattle.ass_script.specs.Numbers.{plain_decimal, pointed_decimal, decimal_from, decimal_of, milli_behind, milli_of}
use Rattle.ass_events.specs.Numbers.{whole_or_zero, time_of, instant_of}
use Rattle.ass_events.proofs.NumberLemmas.{AreDigits, decimal_digits}
use Rattle.ass_events.proofs.TimeLemmas.{time_from_shape}
use Rattle.track_write.specs.Spelling.{digit, two_digits, three_digits, fraction_text, thousandths_text, milli_text, time_text}
use Rattle.track_write.specs.Texts.{max_written_end}

-- ---- digits

digit_passes : (n : ℕ) → is_decimal (digit n) ≡ true
digit_passes n = small (n % 10) (omega arith)
  where
    small : (d : ℕ) → d < 10 → is_decimal (48 + d) ≡ true
    small d below = grind (arith, nat_tests)

digit_says : (n : ℕ) → digit_value (digit n) ≡ n % 10
digit_says n = small (n % 10) (omega arith)
  where
    small : (d : ℕ) → d < 10 → digit_value (48 + d) ≡ d
    small d below = grind (arith, nat_tests)

one_digit : (c : ℕ) (cs : List ℕ) → is_decimal c ≡ true → AllPass is_decimal cs → AllPass is_decimal (c ∷ cs)
one_digit c cs first rest = All-cons (λ z. is_decimal z ≡ true) c cs first rest

last_digit : (n : ℕ) → AllPass is_decimal (digit n ∷ [])
last_digit n = one_digit (digit n) [] (digit_passes n) (All-nil (λ z. is_decimal z ≡ true))

two_pass : (n : ℕ) → AllPass is_decimal (two_digits n)
two_pass n = one_digit (digit (n / 10)) (digit n ∷ []) (digit_passes (n / 10)) (last_digit n)

three_pass : (n : ℕ) → AllPass is_decimal (three_digits n)
three_pass n = one_digit (digit (n / 100)) (two_digits n) (digit_passes (n / 100)) (two_pass n)

two_say : (n : ℕ) → n < 100 → number_of 10 (two_digits n) ≡ n
two_say n small = omega (arith, digit_says n, digit_says (n / 10))

three_say : (n : ℕ) → n < 1000 → number_of 10 (three_digits n) ≡ n
three_say n small = omega (arith, digit_says n, digit_says (n / 10), digit_says (n / 100))

-- ---- thousandths

-- digits alone
plain_read : (whole : ℕ) (ds : List ℕ) → AreDigits whole ds → decimal_of ds ≡ Some (min (whole * 1000) max_held)
plain_read whole ds is =
    let count : prefix_len is_decimal ds ≡ length ds = prefix_len_all is_decimal ds is.all in
    ap (decimal_from ds) count ∙ at (length ds) refl is.some
  where
    at : (w : ℕ) → w ≡ length ds → 0 < w → decimal_from ds w ≡ Some (min (whole * 1000) max_held)
    at w size some =
        let past : ltb w (length ds) ≡ false = grind (arith, nat_tests) in
        let none : eqb w 0 ≡ false = grind (arith, nat_tests) in
        let all : take w ds ≡ ds = ap (λ z. take z ds) size ∙ ap (take (length ds)) (sym (append-nil ds)) ∙ take-append_seam ds [] in
        ap (λ b. cond (b && eqb (get_or ds w 0) 46) (pointed_decimal ds w (prefix_len is_decimal (drop (w + 1) ds))) (plain_decimal ds w)) past
        ∙ ap (λ b. cond b None (Some (min (number_of 10 (take w ds) * 1000) max_held))) none
        ∙ ap (λ z. Some (min (number_of 10 z * 1000) max_held)) all
        ∙ ap (λ z. Some (min (z * 1000) max_held)) is.value

-- digits, a point and digits
pointed_read : (whole : ℕ) (ds fs : List ℕ) → AreDigits whole ds → AllPass is_decimal fs → decimal_of (ds ++ (46 ∷ fs)) ≡ Some (min (whole * 1000 + number_of 10 fs * 1000 / 10 ^ length fs) max_held)
pointed_read whole ds fs is all =
    let text = ds ++ (46 ∷ fs) in
    let count : prefix_len is_decimal text ≡ length ds = prefix_len-append is_decimal ds (46 ∷ fs) is.all ∙ omega arith in
    let inside : ltb (length ds) (length text) ≡ true = (let size = length-append ds (46 ∷ fs) in grind (arith, nat_tests)) in
    let at : eqb (get_or text (length ds) 0) 46 ≡ true = ap (λ z. eqb z 46) (get_or_at ds 46 fs 0 (length ds) refl) in
    let behind : drop (length ds + 1) text ≡ fs = drop-append-add ds (46 ∷ fs) 1 in
    let more : prefix_len is_decimal (drop (length ds + 1) text) ≡ length fs = ap (prefix_len is_decimal) behind ∙ prefix_len_all is_decimal fs all in
    let some : eqb (length ds + length fs) 0 ≡ false = (let has = is.some in grind (arith, nat_tests)) in
    ap (decimal_from text) count
    ∙ ap (λ b. cond (b && eqb (get_or text (length ds) 0) 46) (pointed_decimal text (length ds) (prefix_len is_decimal (drop (length ds + 1) text))) (plain_decimal text (length ds))) inside
    ∙ ap (λ b. cond b (pointed_decimal text (length ds) (prefix_len is_decimal (drop (length ds + 1) text))) (plain_decimal text (length ds))) at
    ∙ ap (pointed_decimal text (length ds)) more
    ∙ ap (λ b. cond b None (Some (min (number_of 10 (take (length ds) text) * 1000 + number_of 10 (take (length fs) (drop (length ds + 1) text)) * 1000 / 10 ^ length fs) max_held))) some
    ∙ ap (λ z. Some (min (number_of 10 z * 1000 + number_of 10 (take (length fs) (drop (length ds + 1) text)) * 1000 / 10 ^ length fs) max_held)) (take-append_seam ds (46 ∷ fs))
    ∙ ap (λ z. Some (min (number_of 10 ds * 1000 + number_of 10 z * 1000 / 10 ^ length fs) max_held)) (ap (take (length fs)) (behind ∙ sym (append-nil fs)) ∙ take-append_seam fs [])
    ∙ ap (λ z. Some (min (z * 1000 + number_of 10 fs * 1000 / 10 ^ length fs) max_held)) is.value

thousandths_read : (n : ℕ) → n ≤ max_held → decimal_of (thousandths_text n) ≡ Some n
thousandths_read n small = cases (eqb (n % 1000) 0) (eqb (n % 1000 % 100) 0) (eqb (n % 1000 % 10) 0) refl refl refl
  where
    is : AreDigits (n / 1000) (decimal (n / 1000))
    is = decimal_digits (n / 1000) (omega arith)

    held : (k : ℕ) → k ≡ n → Some (min k max_held) ≡ Some n
    held k e = ap Some (omega arith)

    cases : (x y z : Bool) → eqb (n % 1000) 0 ≡ x → eqb (n % 1000 % 100) 0 ≡ y → eqb (n % 1000 % 10) 0 ≡ z →
        decimal_of (decimal (n / 1000) ++ cond x [] (cond y (46 ∷ digit (n % 1000 / 100) ∷ []) (cond z (46 ∷ two_digits (n % 1000 / 10)) (46 ∷ three_digits (n % 1000))))) ≡ Some n
    cases true y z ex ey ez =
        let none : n % 1000 ≡ 0 = grind (arith, nat_tests) in
        ap decimal_of (append-nil (decimal (n / 1000))) ∙ plain_read (n / 1000) (decimal (n / 1000)) is ∙ held (n / 1000 * 1000) (omega arith)
    cases false true z ex ey ez =
        let none : n % 1000 % 100 ≡ 0 = grind (arith, nat_tests) in
        let says = digit_says (n % 1000 / 100) in
        pointed_read (n / 1000) (decimal (n / 1000)) (digit (n % 1000 / 100) ∷ []) is (last_digit (n % 1000 / 100))
        ∙ held (n / 1000 * 1000 + (digit_value (digit (n % 1000 / 100)) * 1 + 0) * 1000 / 10) (omega arith)
    cases false false true ex ey ez =
        let none : n % 1000 % 10 ≡ 0 = grind (arith, nat_tests) in
        let says = two_say (n % 1000 / 10) (omega arith) in
        pointed_read (n / 1000) (decimal (n / 1000)) (two_digits (n % 1000 / 10)) is (two_pass (n % 1000 / 10))
        ∙ held (n / 1000 * 1000 + number_of 10 (two_digits (n % 1000 / 10)) * 1000 / 100) (omega arith)
    cases false false false ex ey ez =
        let says = three_say (n % 1000) (omega arith) in
        pointed_read (n / 1000) (decimal (n / 1000)) (three_digits (n % 1000)) is (three_pass (n % 1000))
        ∙ held (n / 1000 * 1000 + number_of 10 (three_digits (n % 1000)) * 1000 / 1000) (omega arith)

-- what begins with a digit has no sign
no_sign : (ds rest : List ℕ) → AllPass is_decimal ds → 0 < length ds → sign_len (ds ++ rest) ≡ 0
no_sign [] rest all some = absurd (omega arith)
no_sign (c ∷ cs) rest all some = ap (λ b. cond b 1 0) (decimal_no_sign c (All-head (λ z. is_decimal z ≡ true) c cs all))

pub milli_read : (z : ℤ) → IsHeldNumber z → milli_of (milli_text z) ≡ Some z
unfolding milli_of
milli_read (pos n) held =
    let is = decimal_digits (n / 1000) (omega (arith, ints, held.1)) in
    ap (milli_behind (thousandths_text n)) (no_sign (decimal (n / 1000)) (fraction_text (n % 1000)) is.all is.some)
    ∙ ap (option_map (signed [])) (thousandths_read n (omega (arith, ints, held.1)))
milli_read (negsuc n) held = ap (option_map (signed (45 ∷ []))) (thousandths_read (suc n) (omega (arith, ints, held.0)))

-- whole thousandths
pub whole_milli : (n : ℕ) → n ≤ 1000000 → milli_of (decimal n) ≡ Some (pos (n * 1000))
unfolding milli_of
whole_milli n small =
    let is = decimal_digits n (omega arith) in
    ap (milli_behind (decimal n)) (ap sign_len (sym (append-nil (decimal n))) ∙ no_sign (decimal n) [] is.all is.some)
    ∙ ap (option_map (signed [])) (plain_read n (decimal n) is ∙ ap Some (omega arith))

-- ---- whole numbers

digits_whole : (before digits : List ℕ) (n : ℕ) → AllPass is_blank before → n ≤ max_whole → AreDigits n digits → IsWholeNumber (before ++ digits) (pos n)
digits_whole before digits n blanks small d = record {
  before = before;
  sign = [];
  digits = digits;
  after = [];
  spelled = ap (λ z. before ++ z) (sym (append-nil digits));
  blanks_before = blanks;
  sign_or_none = inl refl;
  all_digits = d.all;
  some_digit = d.some;
  blanks_after = All-nil (λ c. is_blank c ≡ true);
  small = omega (arith, d.value);
  value = ap pos (sym d.value);
}

minus_whole : (before digits : List ℕ) (n : ℕ) → AllPass is_blank before → suc n ≤ max_whole → AreDigits (suc n) digits → IsWholeNumber (before ++ (45 ∷ digits)) (negsuc n)
minus_whole before digits n blanks small d = record {
  before = before;
  sign = codes "-";
  digits = digits;
  after = [];
  spelled = ap (λ z. before ++ (45 ∷ z)) (sym (append-nil digits));
  blanks_before = blanks;
  sign_or_none = inr (inr refl);
  all_digits = d.all;
  some_digit = d.some;
  blanks_after = All-nil (λ c. is_blank c ≡ true);
  small = omega (arith, d.value);
  value = ap (λ z. neg_ℤ (pos z)) (sym d.value);
}

-- a whole number behind blanks
pub whole_read : (before : List ℕ) (z : ℤ) → AllPass is_blank before → IsWithin max_whole z → whole_of (before ++ signed_decimal z) ≡ Some z
whole_read before (pos n) blanks within =
    (wholes_read (before ++ decimal n) (pos n)).1 (digits_whole before (decimal n) n blanks (omega (arith, ints, within.1)) (decimal_digits n (omega (arith, ints, within.1))))
whole_read before (negsuc n) blanks within =
    (wholes_read (before ++ (45 ∷ decimal (suc n))) (negsuc n)).1 (minus_whole before (decimal (suc n)) n blanks (omega (arith, ints, within.0)) (decimal_digits (suc n) (omega (arith, ints, within.0))))

pub no_blanks : AllPass is_blank []
no_blanks = All-nil (λ c. is_blank c ≡ true)

pub one_blank : AllPass is_blank (32 ∷ [])
one_blank = All-cons (λ c. is_blank c ≡ true) 32 [] refl no_blanks

-- ---- what isn't below 0

pub not_below : (z : ℤ) → pos 0 ≤ℤ z → int_max (pos 0) z ≡ z
not_below z low = ap (λ b. cond b (pos 0) z) (lt_false z (pos 0) low)

-- ---- times

hours_part : (n : ℕ) → n ≤ 999999 → IsTimePart (decimal n)
hours_part n small =
    let d = decimal_digits n (omega arith) in
    record { all_digits = d.all; some_digit = d.some; at_most_six = length-decimal-le 6 n (omega arith) (omega arith) (omega arith) }

two_part : (n : ℕ) → IsTimePart (two_digits n)
two_part n = record { all_digits = two_pass n; some_digit = omega arith; at_most_six = omega arith }

pub time_read : (t : ℕ) → t % 10 ≡ 0 → t ≤ max_written_end → time_of (time_text t) ≡ Some (pos t)
time_read t whole small =
    let h = t / 3600000 in
    let d = decimal_digits h (omega arith) in
    time_from_shape (time_text t) (pos t) (record {
      before = [];
      hours = decimal (t / 3600000);
      minutes = two_digits (t / 60000 % 60);
      seconds = two_digits (t / 1000 % 60);
      hundredths = two_digits (t / 10 % 100);
      after = [];
      spelled = append_assoc (decimal h ++ (58 ∷ two_digits (t / 60000 % 60))) (58 ∷ two_digits (t / 1000 % 60)) (46 ∷ two_digits (t / 10 % 100))
          ∙ append_assoc (decimal h) (58 ∷ two_digits (t / 60000 % 60)) ((58 ∷ two_digits (t / 1000 % 60)) ++ (46 ∷ two_digits (t / 10 % 100)));
      blanks_before = no_blanks;
      hours_part = hours_part (t / 3600000) (omega arith);
      minutes_part = two_part (t / 60000 % 60);
      seconds_part = two_part (t / 1000 % 60);
      hundredths_part = two_part (t / 10 % 100);
      blanks_after = no_blanks;
      value = ap pos (omega (arith, d.value, two_say (t / 60000 % 60) (omega arith), two_say (t / 1000 % 60) (omega arith), two_say (t / 10 % 100) (omega arith)));
    })

nothing_blank : (c : ℕ) (cs : List ℕ) → is_blank c ≡ false → list_all is_blank (c ∷ cs) ≡ false
nothing_blank c cs none = ap (λ b. b && list_all is_blank cs) none

starts_no_blank : (ds rest : List ℕ) → AllPass is_decimal ds → 0 < length ds → list_all is_blank (ds ++ rest) ≡ false
starts_no_blank [] rest all some = absurd (omega arith)
starts_no_blank (c ∷ cs) rest all some = nothing_blank c (cs ++ rest) (decimal_no_blank c (All-head (λ z. is_decimal z ≡ true) c cs all))

pub instant_read : (t : ℕ) → t % 10 ≡ 0 → t ≤ max_written_end → instant_of (time_text t) ≡ Some (pos t)
unfolding instant_of
instant_read t whole small =
    let h = decimal (t / 3600000) in
    let d = decimal_digits (t / 3600000) (omega arith) in
    let m = 58 ∷ two_digits (t / 60000 % 60) in
    let s = 58 ∷ two_digits (t / 1000 % 60) in
    let c = 46 ∷ two_digits (t / 10 % 100) in
    let spelled : time_text t ≡ h ++ (m ++ (s ++ c)) = append_assoc (h ++ m) s c ∙ append_assoc h m (s ++ c) in
    let none : list_all is_blank (time_text t) ≡ false = ap (list_all is_blank) spelled ∙ starts_no_blank h (m ++ (s ++ c)) d.all d.some in
    ap (λ b. cond b (Some (pos 0)) (time_of (time_text t))) none ∙ time_read t whole small

-- a number that may stand behind one blank
pub number_read : (before : List ℕ) (z : ℤ) → AllPass is_blank before → IsWithin max_whole z → list_all is_blank (before ++ signed_decimal z) ≡ false → whole_or_zero (before ++ signed_decimal z) ≡ Some z
unfolding whole_or_zero
number_read before z blanks within none = ap (λ b. cond b (Some (pos 0)) (whole_of (before ++ signed_decimal z))) none ∙ whole_read before z blanks within

pub signed_no_blank : (z : ℤ) → IsWithin max_whole z → list_all is_blank (signed_decimal z) ≡ false
signed_no_blank (pos n) within =
    let d = decimal_digits n (omega (arith, ints, within.1)) in
    ap (list_all is_blank) (sym (append-nil (decimal n))) ∙ starts_no_blank (decimal n) [] d.all d.some
signed_no_blank (negsuc n) within = refl
