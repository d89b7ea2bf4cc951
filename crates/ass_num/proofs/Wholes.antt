-- Texts that are a whole number between blanks.
use Rattle.std.proofs.Common.{◌≡◌, ℕ, ◌+◌, ◌<◌, ◌≤◌, min, true, cond, ◌⊎◌, inl, inr, List, [], ◌∷◌, ◌++◌, length, take, drop, ℤ, refl, sym, ap, ◌∙◌, subst, arith, length-append}
use Rattle.std.proofs.lemmas.List.{take-append-drop, length-take-le, length-drop, drop-drop}
use Rattle.std.proofs.lemmas.List.Elements.{All-head}
use Rattle.std.proofs.lemmas.List.Sums.{prefix_len-le-length}
use Rattle.std.proofs.Math.Seq.{drop-append_seam, take-append_seam}
use Rattle.std.specs.List.{AllPass, prefix_len}
use Rattle.ass_num.specs.Numerals.{is_blank, is_decimal, sign_len, number_of, IsSign, signed, IsWholeNumber}
use Rattle.ass_num.proofs.Runs.{prefix_len-append, prefix_len_all, AllPass-take, AllPass-from_prefix_len, cut_at, IsSign-take, decimal_no_blank, blank_no_decimal}
use Rattle.ass_num.proofs.SignFronts.{unsigned_all, sign_before}

-- No blank stands before a sign or a digit, and no digit at the front of blanks.
pub no_blank_digits : (digits rest : List ℕ) → AllPass is_decimal digits → 0 < length digits → prefix_len is_blank (digits ++ rest) ≡ 0
no_blank_digits [] rest all some = absurd (omega arith)
no_blank_digits (c ∷ cs) rest all some = ap (λ b. cond b (1 + prefix_len is_blank (cs ++ rest)) 0) (decimal_no_blank c (All-head (λ z. is_decimal z ≡ true) c cs all))

pub no_blank_signed : (sign digits rest : List ℕ) → IsSign sign → AllPass is_decimal digits → 0 < length digits → prefix_len is_blank (sign ++ (digits ++ rest)) ≡ 0
no_blank_signed sign digits rest (inl e) all some = ap (λ z. prefix_len is_blank (z ++ (digits ++ rest))) e ∙ no_blank_digits digits rest all some
no_blank_signed sign digits rest (inr (inl e)) all some = ap (λ z. prefix_len is_blank (z ++ (digits ++ rest))) e
no_blank_signed sign digits rest (inr (inr e)) all some = ap (λ z. prefix_len is_blank (z ++ (digits ++ rest))) e

pub no_digit_blanks : (blanks : List ℕ) → AllPass is_blank blanks → prefix_len is_decimal blanks ≡ 0
no_digit_blanks [] all = refl
no_digit_blanks (c ∷ cs) all = ap (λ b. cond b (1 + prefix_len is_decimal cs) 0) (blank_no_decimal c (All-head (λ z. is_blank z ≡ true) c cs all))

-- Where the parts of a whole number stand: b blanks, a sign of s bytes, d digits, e blanks.
module _ (t : List ℕ) (b s d e number : ℕ)
    (blanks : b ≡ prefix_len is_blank t) (sign : s ≡ sign_len (drop b t)) (digits : d ≡ prefix_len is_decimal (drop (b + s) t))
    (value : number ≡ min (number_of 10 (take d (drop (b + s) t))) 4294967296) (after : e ≡ prefix_len is_blank (drop (b + s + d) t)) where
  whole_shape : (v : ℤ) → (m : IsWholeNumber t v) → (d ≡ length m.digits) × (take d (drop (b + s) t) ≡ m.digits) × (b + s + d + e ≡ length t)
  whole_shape v m =
      let b_is : b ≡ length m.before =
      blanks ∙ ap (prefix_len is_blank) m.spelled ∙ prefix_len-append is_blank m.before (m.sign ++ (m.digits ++ m.after)) m.blanks_before
      ∙ omega (arith, no_blank_signed m.sign m.digits m.after m.sign_or_none m.all_digits m.some_digit) in
      let signed_rest : drop b t ≡ m.sign ++ (m.digits ++ m.after) =
      ap (λ z. drop z t) b_is ∙ ap (drop (length m.before)) m.spelled ∙ drop-append_seam m.before (m.sign ++ (m.digits ++ m.after)) in
      let s_is : s ≡ length m.sign = sign ∙ ap sign_len signed_rest ∙ sign_before m.sign m.digits m.after m.sign_or_none (unsigned_all m.digits m.all_digits m.some_digit) in
      let digits_rest : drop (b + s) t ≡ m.digits ++ m.after =
      sym (drop-drop s b t) ∙ ap (drop s) signed_rest ∙ ap (λ z. drop z (m.sign ++ (m.digits ++ m.after))) s_is ∙ drop-append_seam m.sign (m.digits ++ m.after) in
      let d_is : d ≡ length m.digits =
      digits ∙ ap (prefix_len is_decimal) digits_rest ∙ prefix_len-append is_decimal m.digits m.after m.all_digits ∙ omega (arith, no_digit_blanks m.after m.blanks_after) in
      let after_rest : drop (b + s + d) t ≡ m.after =
      sym (drop-drop d (b + s) t) ∙ ap (drop d) digits_rest ∙ ap (λ z. drop z (m.digits ++ m.after)) d_is ∙ drop-append_seam m.digits m.after in
      let e_is : e ≡ length m.after = after ∙ ap (prefix_len is_blank) after_rest ∙ prefix_len_all is_blank m.after m.blanks_after in
      let count : length t ≡ length m.before + (length m.sign + (length m.digits + length m.after)) =
      ap length m.spelled ∙ length-append m.before (m.sign ++ (m.digits ++ m.after))
      ∙ ap (λ z. length m.before + z) (length-append m.sign (m.digits ++ m.after) ∙ ap (λ z. length m.sign + z) (length-append m.digits m.after)) in
      (d_is, ap (take d) digits_rest ∙ ap (λ z. take z (m.digits ++ m.after)) d_is ∙ take-append_seam m.digits m.after, omega arith)

  pub whole_none : (d ≡ 0) ⊎ ((2147483647 < number) ⊎ (b + s + d + e < length t)) → (v : ℤ) → IsWholeNumber t v → ⊥
  whole_none why v m =
      let shape = whole_shape v m in
      let n : number_of 10 (take d (drop (b + s) t)) ≤ 2147483647 = rw shape.1 m.small in
      elim why [
        | inl no_digit ↦ omega (arith, m.some_digit, shape.0)
        | inr other ↦ elim other [ inl large ↦ omega (arith, n) | inr more ↦ omega (arith, shape.2) ]
      ]

  pub whole_some : 0 < d → number ≤ 2147483647 → length t ≤ b + s + d + e → (v : ℤ) → v ≡ signed (take s (drop b t)) number → IsWholeNumber t v
  whole_some some small all v v_is = record {
    before = take b t;
    sign = take s (drop b t);
    digits = take d (drop (b + s) t);
    after = drop (b + s + d) t;
    spelled = sym (take-append-drop b t) ∙ ap (λ z. take b t ++ z) (cut_at b s t ∙ ap (λ z. take s (drop b t) ++ z) (cut_at (b + s) d t));
    blanks_before = let P : ℕ → Type 0 = λ z. AllPass is_blank (take z t) in subst P (sym blanks) (AllPass-take is_blank t);
    sign_or_none = let P : ℕ → Type 0 = λ z. IsSign (take z (drop b t)) in subst P (sym sign) (IsSign-take (drop b t));
    all_digits = let P : ℕ → Type 0 = λ z. AllPass is_decimal (take z (drop (b + s) t)) in subst P (sym digits) (AllPass-take is_decimal (drop (b + s) t));
    some_digit = omega (arith, length-take-le d (drop (b + s) t) (omega (arith, prefix_len-le-length is_decimal (drop (b + s) t))));
    blanks_after = AllPass-from_prefix_len is_blank (drop (b + s + d) t) (omega (arith, length-drop (b + s + d) t));
    small = omega arith;
    value = v_is ∙ ap (signed (take s (drop b t))) (omega arith);
  }
