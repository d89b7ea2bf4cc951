-- The longest prefixes that are colours.
use Rattle.std.proofs.Common.{◌≡◌, ℕ, zero, suc, ◌+◌, ◌%◌, ◌^◌, ◌<◌, ◌≤◌, Bool, true, false, cond, eqb, ◌&&◌, ◌||◌, ◌⊎◌, inl, inr, List, [], ◌∷◌, ◌++◌, length, take, drop, pos, neg_ℤ, refl, sym, ap, ◌∙◌, subst, arith, append_assoc, length-append}
use Rattle.std.proofs.lemmas.List.{length-take-le, length-drop}
use Rattle.std.proofs.lemmas.List.Elements.{All-head}
use Rattle.std.proofs.lemmas.List.Sums.{prefix_len-le-length}
use Rattle.std.proofs.lemmas.Bool.{false≢true}
use Rattle.std.proofs.lemmas.Bool.Decides.{nat_tests}
use Rattle.std.proofs.Math.Seq.{take-add, drop-append_seam, take-append_seam}
use Rattle.std.specs.Int.{int_rem_euclid}
use Rattle.std.specs.List.{AllPass, prefix_len}
use Rattle.ass_num.specs.Fronts.{IsLongestFront, HasNoFront, BeginsWith}
use Rattle.ass_num.specs.Numerals.{is_blank, is_decimal, is_hexadecimal, is_mark, sign_len, number_of, IsSign, signed, IsMarked, IsColour, IsAlpha, IsWrapped, IsStyleColour, is_hex_start}
use Rattle.ass_num.proofs.Runs.{prefix_len-append, AllPass-take, rest_of_front, sign_len_le, IsSign-take, hexadecimal_no_mark}
use Rattle.ass_num.proofs.SignFronts.{unsigned_all, behind_sign}
use Rattle.ass_num.proofs.Wholes.{no_blank_signed}

-- ---- marks and hexadecimal digits

pub no_mark_digits : (digits rest : List ℕ) → AllPass is_hexadecimal digits → 0 < length digits → prefix_len is_mark (digits ++ rest) ≡ 0
no_mark_digits [] rest all some = absurd (omega arith)
no_mark_digits (c ∷ cs) rest all some = ap (λ b. cond b (1 + prefix_len is_mark (cs ++ rest)) 0) (hexadecimal_no_mark c (All-head (λ z. is_hexadecimal z ≡ true) c cs all))

module _ (width : ℕ) (t : List ℕ) (m d : ℕ) (marks : m ≡ prefix_len is_mark t) (digits : d ≡ prefix_len is_hexadecimal (drop m t)) where
  -- a prefix of marks and digits has all the marks there, and no more digits than there are
  marked_shape : (k low : ℕ) → (x : IsMarked width (take k t) low) → (m ≡ length x.marks) × (length x.digits ≤ d)
  marked_shape k low x =
      let text = rest_of_front t x.marks x.digits k x.spelled in
      let m_is : m ≡ length x.marks =
      marks ∙ ap (prefix_len is_mark) text ∙ prefix_len-append is_mark x.marks (x.digits ++ drop k t) x.all_marks
      ∙ omega (arith, no_mark_digits x.digits (drop k t) x.all_digits x.some_digit) in
      let behind : drop m t ≡ x.digits ++ drop k t = ap (λ z. drop z t) m_is ∙ ap (drop (length x.marks)) text ∙ drop-append_seam x.marks (x.digits ++ drop k t) in
      let d_is = digits ∙ ap (prefix_len is_hexadecimal) behind ∙ prefix_len-append is_hexadecimal x.digits (drop k t) x.all_digits in
      (m_is, omega (arith, d_is))

  pub marked_none : d ≡ 0 → HasNoFront (IsMarked width) t
  marked_none none = λ k low x. omega (arith, marked_shape k low x, x.some_digit)

  pub marked_front : (low : ℕ) → low ≡ number_of 16 (take d (drop m t)) % 2 ^ width → 0 < d → IsLongestFront (IsMarked width) t low (m + d)
  marked_front low value some = record {
    within = omega (arith, length-drop m t, prefix_len-le-length is_mark t, prefix_len-le-length is_hexadecimal (drop m t));
    spelled = record {
      marks = take m t;
      digits = take d (drop m t);
      spelled = take-add m d t;
      all_marks = let P : ℕ → Type 0 = λ z. AllPass is_mark (take z t) in subst P (sym marks) (AllPass-take is_mark t);
      all_digits = let P : ℕ → Type 0 = λ z. AllPass is_hexadecimal (take z (drop m t)) in subst P (sym digits) (AllPass-take is_hexadecimal (drop m t));
      some_digit = omega (arith, length-take-le d (drop m t) (omega (arith, prefix_len-le-length is_hexadecimal (drop m t))));
      value = value;
    };
    longest = λ longer other fits x.
        omega (arith, marked_shape longer other x, length-take-le longer t fits, ap length x.spelled, length-append x.marks x.digits);
  }

-- the low bits of the low bits
alpha_of : (bytes : List ℕ) (colour : ℕ) → IsColour bytes colour → IsAlpha bytes (colour % 256)
alpha_of bytes colour x = record {
  marks = x.marks;
  digits = x.digits;
  spelled = x.spelled;
  all_marks = x.all_marks;
  all_digits = x.all_digits;
  some_digit = x.some_digit;
  value = omega (arith, x.value);
}

colour_of : (bytes : List ℕ) (alpha : ℕ) → IsAlpha bytes alpha → (colour : ℕ) × IsColour bytes colour
colour_of bytes alpha x = (
  number_of 16 x.digits % 2 ^ 32,
  record {
    marks = x.marks;
    digits = x.digits;
    spelled = x.spelled;
    all_marks = x.all_marks;
    all_digits = x.all_digits;
    some_digit = x.some_digit;
    value = refl;
  },
)

pub alpha_front : (t : List ℕ) (colour : ℕ) → BeginsWith IsColour t colour → BeginsWith IsAlpha t (colour % 256)
alpha_front t colour f = (
  f.0,
  record {
    within = f.1.within;
    spelled = alpha_of (take f.0 t) colour f.1.spelled;
    longest = λ longer other fits x. let c = colour_of (take longer t) other x in f.1.longest longer c.0 fits c.1;
  },
)

pub alpha_none : (t : List ℕ) → HasNoFront IsColour t → HasNoFront IsAlpha t
alpha_none t none = λ len alpha x. let c = colour_of (take len t) alpha x in none len c.0 c.1

-- ---- a sign and decimal digits

-- A number and the negative of another are 0 modulo 2 ^ 32.
negative_rest : (n low : ℕ) → low < 4294967296 → (low + n % 4294967296) % 4294967296 ≡ 0 → pos low ≡ int_rem_euclid (neg_ℤ (pos n)) (pos 4294967296)
negative_rest zero low small zero_sum = ap pos (omega arith)
negative_rest (suc n) low small zero_sum = ap pos (omega arith)

-- the low bits under a sign
pub low_signed : (sign : List ℕ) (minus : Bool) (n number low : ℕ) → signed sign n ≡ cond minus (neg_ℤ (pos n)) (pos n) → number ≡ n % 4294967296 → ((minus ≡ true) × (low < 4294967296) × ((low + number) % 4294967296 ≡ 0)) ⊎ ((minus ≡ false) × (low ≡ number)) → pos low ≡ int_rem_euclid (signed sign n) (pos 4294967296)
low_signed sign minus n number low is rest (inl negative) =
    let e : signed sign n ≡ neg_ℤ (pos n) = rw negative.0 at is in
    let zero_sum : (low + n % 4294967296) % 4294967296 ≡ 0 = ap (λ z. (low + z) % 4294967296) (sym rest) ∙ negative.2 in
    negative_rest n low negative.1 zero_sum ∙ ap (λ z. int_rem_euclid z (pos 4294967296)) (sym e)
low_signed sign minus n number low is rest (inr positive) =
    let e : signed sign n ≡ pos n = rw positive.0 at is in
    ap pos (positive.1 ∙ rest) ∙ ap (λ z. int_rem_euclid z (pos 4294967296)) (sym e)

module _ (t : List ℕ) (s d : ℕ) (sign : s ≡ sign_len t) (digits : d ≡ prefix_len is_decimal (drop s t)) where
  wrapped_shape : (k low : ℕ) → (x : IsWrapped (take k t) low) → (s ≡ length x.sign) × (length x.digits ≤ d)
  wrapped_shape k low x =
      let u = unsigned_all x.digits x.all_digits x.some_digit in
      let behind = behind_sign t x.sign x.digits k x.spelled x.sign_or_none u in
      let d_is = digits ∙ ap (λ z. prefix_len is_decimal (drop z t)) sign ∙ ap (prefix_len is_decimal) behind.1 ∙ prefix_len-append is_decimal x.digits (drop k t) x.all_digits in
      (omega (arith, behind.0), omega (arith, d_is))

  pub wrapped_none : d ≡ 0 → HasNoFront IsWrapped t
  wrapped_none none = λ k low x. omega (arith, wrapped_shape k low x, x.some_digit)

  pub wrapped_front : (low : ℕ) → pos low ≡ int_rem_euclid (signed (take s t) (number_of 10 (take d (drop s t)))) (pos (2 ^ 32)) → 0 < d → IsLongestFront IsWrapped t low (s + d)
  wrapped_front low value some = record {
    within = omega (arith, length-drop s t, sign_len_le t, prefix_len-le-length is_decimal (drop s t));
    spelled = record {
      sign = take s t;
      digits = take d (drop s t);
      spelled = take-add s d t;
      sign_or_none = let P : ℕ → Type 0 = λ z. IsSign (take z t) in subst P (sym sign) (IsSign-take t);
      all_digits = let P : ℕ → Type 0 = λ z. AllPass is_decimal (take z (drop s t)) in subst P (sym digits) (AllPass-take is_decimal (drop s t));
      some_digit = omega (arith, length-take-le d (drop s t) (omega (arith, prefix_len-le-length is_decimal (drop s t))));
      value = value;
    };
    longest = λ longer other fits x.
        omega (arith, wrapped_shape longer other x, length-take-le longer t fits, ap length x.spelled, length-append x.sign x.digits);
  }

-- ---- the colour of a style

hex_start-append : (code rest : List ℕ) → is_hex_start code ≡ true → is_hex_start (code ++ rest) ≡ true
hex_start-append [] rest e = absurd (false≢true e)
hex_start-append (a ∷ []) rest e = absurd (false≢true e)
hex_start-append (a ∷ (b ∷ cs)) rest e = e

hex_start-take : (t : List ℕ) (n : ℕ) → 2 ≤ n → is_hex_start t ≡ true → is_hex_start (take n t) ≡ true
hex_start-take t zero two e = absurd (omega arith)
hex_start-take t (suc zero) two e = absurd (omega arith)
hex_start-take [] (suc (suc n)) two e = e
hex_start-take (a ∷ []) (suc (suc n)) two e = e
hex_start-take (a ∷ (b ∷ cs)) (suc (suc n)) two e = e

-- The first two bytes are marks, and the first is neither a blank nor begins a decimal number.
two_marks : (a b : ℕ) (rest : ℕ) → ((eqb a 38) && ((eqb b 72) || (eqb b 104))) ≡ true → 2 ≤ cond (is_mark a) (1 + cond (is_mark b) (1 + rest) 0) 0
two_marks a b rest e = grind (arith, nat_tests)

hex_start_marks : (t : List ℕ) → is_hex_start t ≡ true → 2 ≤ prefix_len is_mark t
hex_start_marks [] e = absurd (false≢true e)
hex_start_marks (a ∷ []) e = absurd (false≢true e)
hex_start_marks (a ∷ (b ∷ cs)) e = two_marks a b (prefix_len is_mark cs) e

no_blank_hex : (a b rest : ℕ) → ((eqb a 38) && ((eqb b 72) || (eqb b 104))) ≡ true → cond (is_blank a) rest 0 ≡ 0
no_blank_hex a b rest e = grind (arith, nat_tests)

pub hex_start_no_blank : (t : List ℕ) → is_hex_start t ≡ true → prefix_len is_blank t ≡ 0
hex_start_no_blank [] e = refl
hex_start_no_blank (a ∷ []) e = absurd (false≢true e)
hex_start_no_blank (a ∷ (b ∷ cs)) e = no_blank_hex a b (1 + prefix_len is_blank (b ∷ cs)) e

no_hex_digit : (c b : ℕ) → is_decimal c ≡ true → ((eqb c 38) && ((eqb b 72) || (eqb b 104))) ≡ false
no_hex_digit c b passes = grind (arith, nat_tests)

no_hex_digits : (digits rest : List ℕ) → AllPass is_decimal digits → 0 < length digits → is_hex_start (digits ++ rest) ≡ false
no_hex_digits [] rest all some = absurd (omega arith)
no_hex_digits (c ∷ cs) rest all some = no_hex_first c (cs ++ rest) (All-head (λ z. is_decimal z ≡ true) c cs all)
  where
    no_hex_first : (c : ℕ) (rest : List ℕ) → is_decimal c ≡ true → is_hex_start (c ∷ rest) ≡ false
    no_hex_first c [] passes = refl
    no_hex_first c (b ∷ cs) passes = no_hex_digit c b passes

no_hex_sign : (sign digits rest : List ℕ) → IsSign sign → AllPass is_decimal digits → 0 < length digits → is_hex_start (sign ++ (digits ++ rest)) ≡ false
no_hex_sign sign digits rest (inl e) all some = ap (λ z. is_hex_start (z ++ (digits ++ rest))) e ∙ no_hex_digits digits rest all some
no_hex_sign sign [] rest (inr e) all some = absurd (omega arith)
no_hex_sign sign (c ∷ cs) rest (inr (inl e)) all some = ap (λ z. is_hex_start (z ++ ((c ∷ cs) ++ rest))) e
no_hex_sign sign (c ∷ cs) rest (inr (inr e)) all some = ap (λ z. is_hex_start (z ++ ((c ∷ cs) ++ rest))) e

pub wrapped_no_hex : (code rest : List ℕ) (low : ℕ) → IsWrapped code low → is_hex_start (code ++ rest) ≡ false
wrapped_no_hex code rest low x =
    ap (λ z. is_hex_start (z ++ rest)) x.spelled ∙ ap is_hex_start (append_assoc x.sign x.digits rest)
    ∙ no_hex_sign x.sign x.digits rest x.sign_or_none x.all_digits x.some_digit

pub wrapped_no_blank : (code rest : List ℕ) (low : ℕ) → IsWrapped code low → prefix_len is_blank (code ++ rest) ≡ 0
wrapped_no_blank code rest low x =
    ap (λ z. prefix_len is_blank (z ++ rest)) x.spelled ∙ ap (prefix_len is_blank) (append_assoc x.sign x.digits rest)
    ∙ no_blank_signed x.sign x.digits rest x.sign_or_none x.all_digits x.some_digit

module _ (t : List ℕ) (b : ℕ) (blanks : b ≡ prefix_len is_blank t) where
  -- what stands behind the blanks, where a prefix of the text is the colour of a style
  style_shape : (k colour : ℕ) → (x : IsStyleColour (take k t) colour) → (b ≡ length x.blanks) × (drop b t ≡ x.code ++ drop k t) × (take (length x.code) (drop b t) ≡ x.code)
  style_shape k colour x =
      let text = rest_of_front t x.blanks x.code k x.spelled in
      let none : prefix_len is_blank (x.code ++ drop k t) ≡ 0 = elim x.value [
        | inl hex ↦ hex_start_no_blank (x.code ++ drop k t) (hex_start-append x.code (drop k t) hex.0)
        | inr decimal ↦ wrapped_no_blank x.code (drop k t) colour decimal
      ] in
      let b_is : b ≡ length x.blanks = blanks ∙ ap (prefix_len is_blank) text ∙ prefix_len-append is_blank x.blanks (x.code ++ drop k t) x.all_blanks ∙ omega (arith, none) in
      let behind : drop b t ≡ x.code ++ drop k t = ap (λ z. drop z t) b_is ∙ ap (drop (length x.blanks)) text ∙ drop-append_seam x.blanks (x.code ++ drop k t) in
      (b_is, behind, ap (take (length x.code)) behind ∙ take-append_seam x.code (drop k t))

  -- the same front behind the blanks, as the start there says
  style_hex : is_hex_start (drop b t) ≡ true → (k colour : ℕ) → (x : IsStyleColour (take k t) colour) → IsColour (take (length x.code) (drop b t)) colour
  style_hex start k colour x =
      let shape = style_shape k colour x in
      elim x.value [
        | inl hex ↦ let P : List ℕ → Type 0 = λ z. IsColour z colour in subst P (sym shape.2) hex.1
        | inr decimal ↦ absurd (false≢true (sym (wrapped_no_hex x.code (drop k t) colour decimal) ∙ ap is_hex_start (sym shape.1) ∙ start))
      ]

  style_decimal : is_hex_start (drop b t) ≡ false → (k colour : ℕ) → (x : IsStyleColour (take k t) colour) → IsWrapped (take (length x.code) (drop b t)) colour
  style_decimal start k colour x =
      let shape = style_shape k colour x in
      elim x.value [
        | inl hex ↦ absurd (false≢true (sym start ∙ ap is_hex_start shape.1 ∙ hex_start-append x.code (drop k t) hex.0))
        | inr decimal ↦ let P : List ℕ → Type 0 = λ z. IsWrapped z colour in subst P (sym shape.2) decimal
      ]

  pub style_hex_none : is_hex_start (drop b t) ≡ true → HasNoFront IsColour (drop b t) → HasNoFront IsStyleColour t
  style_hex_none start none = λ k colour x. none (length x.code) colour (style_hex start k colour x)

  pub style_decimal_none : is_hex_start (drop b t) ≡ false → HasNoFront IsWrapped (drop b t) → HasNoFront IsStyleColour t
  style_decimal_none start none = λ k colour x. none (length x.code) colour (style_decimal start k colour x)

  -- a front behind the blanks is one of the whole text
  style_longest : (len : ℕ) → ((k colour : ℕ) → (x : IsStyleColour (take k t) colour) → length x.code ≤ length (drop b t) → length x.code ≤ len) → (longer other : ℕ) → longer ≤ length t → IsStyleColour (take longer t) other → longer ≤ b + len
  style_longest len no_longer longer other fits x =
      let shape = style_shape longer other x in
      let inside : length x.code ≤ length (drop b t) = omega (arith, ap length shape.1, length-append x.code (drop longer t)) in
      omega (arith, shape.0, no_longer longer other x inside, length-take-le longer t fits, ap length x.spelled, length-append x.blanks x.code)

  style_spelled : (len colour : ℕ) → (((is_hex_start (take len (drop b t)) ≡ true) × IsColour (take len (drop b t)) colour) ⊎ IsWrapped (take len (drop b t)) colour) → IsStyleColour (take (b + len) t) colour
  style_spelled len colour value = record {
    blanks = take b t;
    code = take len (drop b t);
    spelled = take-add b len t;
    all_blanks = let P : ℕ → Type 0 = λ z. AllPass is_blank (take z t) in subst P (sym blanks) (AllPass-take is_blank t);
    value = value;
  }

  pub style_hex_front : is_hex_start (drop b t) ≡ true → (colour len : ℕ) → IsLongestFront IsColour (drop b t) colour len → BeginsWith IsStyleColour t colour
  style_hex_front start colour len f =
      let shape = marked_shape 32 (drop b t) (prefix_len is_mark (drop b t)) (prefix_len is_hexadecimal (drop (prefix_len is_mark (drop b t)) (drop b t))) refl refl len colour f.spelled in
      let count = sym (length-take-le len (drop b t) f.within) ∙ ap length f.spelled.spelled ∙ length-append f.spelled.marks f.spelled.digits in
      let two : 2 ≤ len = omega (arith, hex_start_marks (drop b t) start, shape, count) in (
        b + len,
        record {
          within = omega (arith, f.within, length-drop b t, blanks, prefix_len-le-length is_blank t);
          spelled = style_spelled len colour (inl (hex_start-take (drop b t) len two start, f.spelled));
          longest = style_longest len (λ k other x inside. f.longest (length x.code) other inside (style_hex start k other x));
        },
      )

  pub style_decimal_front : is_hex_start (drop b t) ≡ false → (colour len : ℕ) → IsLongestFront IsWrapped (drop b t) colour len → BeginsWith IsStyleColour t colour
  style_decimal_front start colour len f = (
    b + len,
    record {
      within = omega (arith, f.within, length-drop b t, blanks, prefix_len-le-length is_blank t);
      spelled = style_spelled len colour (inr f.spelled);
      longest = style_longest len (λ k other x inside. f.longest (length x.code) other inside (style_decimal start k other x));
    },
  )
