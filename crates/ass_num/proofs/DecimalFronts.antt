-- The longest front that is a number, with a point or without.
use Rattle.std.proofs.Common.{◌≡◌, ◌≢◌, ℕ, suc, ◌+◌, ◌*◌, ◌/◌, ◌^◌, ◌<◌, ◌≤◌, min, ◌⊎◌, inl, inr, List, [], ◌∷◌, ◌++◌, length, get_or, take, drop, refl, sym, ap, ◌∙◌, subst, arith, append_assoc, length-append}
use Rattle.std.proofs.lemmas.List.{take-append-drop, get_or_at, length-take-le, length-drop, take_more, append-nil}
use Rattle.std.proofs.lemmas.List.Sums.{prefix_len-le-length}
use Rattle.std.proofs.Math.Seq.{take-add, drop-append-add}
use Rattle.std.proofs.Math.Nat.{add-mul-div_right, one-le-pow}
use Rattle.std.specs.List.{prefix_len, AllPass}
use Rattle.ass_num.specs.Fronts.{IsLongestFront, HasNoFront}
use Rattle.ass_num.specs.Numerals.{is_decimal, number_of, IsDecimal, IsHeldDecimal}
use Rattle.ass_num.proofs.NumberLaws.{number_of-append}
use Rattle.ass_num.proofs.Runs.{prefix_len-append, AllPass-take, rest_of_front}

-- how many digits stand at the front, and how many behind the byte after them
abbrev digits_at : List ℕ → ℕ
digits_at t = prefix_len is_decimal t

-- A number of n bytes is no longer than the digits, or than the digits, a point and the digits behind it.
abbrev pub Reaches : List ℕ → ℕ → Type 0
Reaches t n =
    ((n ≤ digits_at t) × (0 < digits_at t))
    ⊎ ((digits_at t < length t) × (get_or t (digits_at t) 0 ≡ 46)
    × (n ≤ digits_at t + 1 + digits_at (drop (digits_at t + 1) t)) × (0 < digits_at t + digits_at (drop (digits_at t + 1) t)))

reaches_plain : (whole rest : List ℕ) → AllPass is_decimal whole → 0 < length whole → Reaches (whole ++ rest) (length whole)
reaches_plain whole rest digits some =
    let w = prefix_len-append is_decimal whole rest digits in
    inl (omega (arith, w), omega (arith, w))

reaches_point : (whole fraction rest : List ℕ) → AllPass is_decimal whole → AllPass is_decimal fraction → 0 < length whole + length fraction → Reaches (whole ++ (46 ∷ (fraction ++ rest))) (length whole + suc (length fraction))
reaches_point whole fraction rest digits more some =
    let t = whole ++ (46 ∷ (fraction ++ rest)) in
    let w : digits_at t ≡ length whole = prefix_len-append is_decimal whole (46 ∷ (fraction ++ rest)) digits ∙ omega arith in
    let behind : drop (length whole + 1) t ≡ fraction ++ rest = drop-append-add whole (46 ∷ (fraction ++ rest)) 1 in
    let f = prefix_len-append is_decimal fraction rest more in
    let Q : ℕ → Type 0 = λ w. (w < length t) × (get_or t w 0 ≡ 46) × (length whole + suc (length fraction) ≤ w + 1 + digits_at (drop (w + 1) t)) × (0 < w + digits_at (drop (w + 1) t)) in
    let here : Q (length whole) = (
      omega (arith, length-append whole (46 ∷ (fraction ++ rest))),
      get_or_at whole 46 (fraction ++ rest) 0 (length whole) refl,
      rw behind (omega (arith, f)),
      rw behind (omega (arith, f)),
    ) in
    inr (subst Q (sym w) here)

pub reaches : (t : List ℕ) (k n : ℕ) → IsDecimal (take k t) n → Reaches t (length (take k t))
reaches t k n d = elim d.point_or_none [
  | inl point ↦
      let P : List ℕ → Type 0 = λ bytes. Reaches bytes (length (take k t)) in
      let whole_text : t ≡ d.whole ++ (46 ∷ (d.fraction ++ drop k t)) =
      rest_of_front t d.whole (d.point ++ d.fraction) k d.spelled ∙ ap (λ z. d.whole ++ ((z ++ d.fraction) ++ drop k t)) point in
      let count : length (take k t) ≡ length d.whole + suc (length d.fraction) =
      ap length d.spelled ∙ ap (λ z. length (d.whole ++ (z ++ d.fraction))) point ∙ length-append d.whole (46 ∷ d.fraction) in
      subst P (sym whole_text) (rw count (reaches_point d.whole d.fraction (drop k t) d.whole_digits d.fraction_digits d.some_digit))
  | inr bare ↦
      let P : List ℕ → Type 0 = λ bytes. Reaches bytes (length (take k t)) in
      let front : take k t ≡ d.whole =
      d.spelled ∙ ap (λ z. d.whole ++ (z ++ d.fraction)) bare.0 ∙ ap (λ z. d.whole ++ z) bare.1 ∙ append-nil d.whole in
      let whole_text : t ≡ d.whole ++ drop k t = sym (take-append-drop k t) ∙ ap (λ z. z ++ drop k t) front in
      subst P (sym whole_text) (rw front (reaches_plain d.whole (drop k t) d.whole_digits (omega (arith, d.some_digit, ap length bare.1))))
]

-- ---- what is read

-- the thousandths of the digits before the point and behind it
thousandths_of : (whole fraction : List ℕ) → number_of 10 (whole ++ fraction) * 1000 / 10 ^ length fraction ≡ number_of 10 whole * 1000 + number_of 10 fraction * 1000 / 10 ^ length fraction
thousandths_of whole fraction =
    let p = 10 ^ length fraction in
    let positive : 0 < p = one-le-pow (length fraction) 10 (omega arith) in
    ap (λ z. z * 1000 / p) (number_of-append 10 whole fraction)
    ∙ ap (λ z. z / p) (regroup (number_of 10 whole) p (number_of 10 fraction))
    ∙ add-mul-div_right (number_of 10 fraction * 1000) (number_of 10 whole * 1000) positive
    ∙ omega arith
  where
    regroup : (n p m : ℕ) → (n * p + m) * 1000 ≡ m * 1000 + n * 1000 * p
    regroup n p m = omega arith

-- holding the digits first changes nothing
held_first : (n t whole fraction all : ℕ) → whole ≡ min n 4294967296 → fraction ≡ t → all ≡ n * 1000 + t → min (whole * 1000 + fraction) 1000000000 ≡ min all 1000000000
held_first n t whole fraction all first second third = omega arith

held_alone : (n whole all : ℕ) → whole ≡ min n 4294967296 → all ≡ n * 1000 + 0 → min (whole * 1000) 1000000000 ≡ min all 1000000000
held_alone n whole all first second = omega arith

digits_pass : (t : List ℕ) (n : ℕ) → n ≡ digits_at t → AllPass is_decimal (take n t)
digits_pass t n is = let P : ℕ → Type 0 = λ z. AllPass is_decimal (take z t) in subst P (sym is) (AllPass-take is_decimal t)

digits_inside : (t : List ℕ) (n : ℕ) → n ≡ digits_at t → length (take n t) ≡ n
digits_inside t n is = length-take-le n t (omega (arith, prefix_len-le-length is_decimal t))

pub point_front : (t : List ℕ) (whole w fraction f : ℕ) → whole ≡ min (number_of 10 (take w t)) 4294967296 → w ≡ digits_at t → w < length t → get_or t w 0 ≡ 46 → fraction ≡ number_of 10 (take f (drop (w + 1) t)) * 1000 / 10 ^ f → f ≡ digits_at (drop (w + 1) t) → 0 < w + f → IsLongestFront IsHeldDecimal t (min (whole * 1000 + fraction) 1000000000) (w + 1 + f)
point_front t whole w fraction f number count inside at thousandths more some =
    let before = take w t in
    let behind = take f (drop (w + 1) t) in
    let b = digits_inside t w count in
    let a = digits_inside (drop (w + 1) t) f more in
    record {
      within = omega (arith, more, prefix_len-le-length is_decimal (drop (w + 1) t), length-drop (w + 1) t);
      spelled = (
        number_of 10 (before ++ behind) * 1000 / 10 ^ length behind,
        record {
          whole = before;
          point = 46 ∷ [];
          fraction = behind;
          spelled = take-add (w + 1) f t ∙ ap (λ z. z ++ behind) (take_more t w 0 inside) ∙ ap (λ z. (before ++ (z ∷ [])) ++ behind) at ∙ append_assoc before (46 ∷ []) behind;
          whole_digits = digits_pass t w count;
          fraction_digits = digits_pass (drop (w + 1) t) f more;
          point_or_none = inl refl;
          some_digit = omega (arith, a, b);
          value = refl;
        },
        held_first _ _ _ _ _ number (thousandths ∙ ap (λ z. number_of 10 behind * 1000 / 10 ^ z) (sym a)) (thousandths_of before behind),
      );
      longest = λ longer other fits spelled.
          let n = length-take-le longer t fits in
          let f_is : f ≡ digits_at (drop (digits_at t + 1) t) = more ∙ ap (λ z. digits_at (drop (z + 1) t)) count in
          elim (reaches t longer spelled.0 spelled.1) [ inl plain ↦ omega (arith, plain) | inr point ↦ omega (arith, point) ];
    }

pub point_none : (t : List ℕ) (w f : ℕ) → w ≡ digits_at t → f ≡ digits_at (drop (w + 1) t) → w + f ≡ 0 → HasNoFront IsHeldDecimal t
point_none t w f count more none = λ len value spelled.
    let f_is : f ≡ digits_at (drop (digits_at t + 1) t) = more ∙ ap (λ z. digits_at (drop (z + 1) t)) count in
    elim (reaches t len spelled.0 spelled.1) [ inl plain ↦ omega (arith, plain) | inr point ↦ omega (arith, point) ]

pub plain_front : (t : List ℕ) (whole w : ℕ) → whole ≡ min (number_of 10 (take w t)) 4294967296 → w ≡ digits_at t → (w < length t → get_or t w 0 ≢ 46) → 0 < w → IsLongestFront IsHeldDecimal t (min (whole * 1000) 1000000000) w
plain_front t whole w number count no_point some =
    let before = take w t in
    let b = digits_inside t w count in
    record {
      within = omega (arith, count, prefix_len-le-length is_decimal t);
      spelled = (
        number_of 10 (before ++ []) * 1000 / 1,
        record {
          whole = before;
          point = [];
          fraction = [];
          spelled = sym (append-nil before);
          whole_digits = digits_pass t w count;
          fraction_digits = digits_pass [] 0 refl;
          point_or_none = inr (refl, refl);
          some_digit = omega (arith, b);
          value = refl;
        },
        held_alone _ whole _ number (thousandths_of before []),
      );
      longest = λ longer other fits spelled.
          let n = length-take-le longer t fits in
          elim (reaches t longer spelled.0 spelled.1) [
            | inl plain ↦ omega (arith, plain)
            | inr point ↦ absurd (no_point (omega (arith, point)) (ap (λ z. get_or t z 0) count ∙ point.1))
          ];
    }

pub plain_none : (t : List ℕ) (w : ℕ) → w ≡ digits_at t → (w < length t → get_or t w 0 ≢ 46) → w ≡ 0 → HasNoFront IsHeldDecimal t
plain_none t w count no_point none = λ len value spelled.
    elim (reaches t len spelled.0 spelled.1) [
      | inl plain ↦ omega (arith, plain)
      | inr point ↦ no_point (omega (arith, point)) (ap (λ z. get_or t z 0) count ∙ point.1)
    ]
