-- The whole number that a text is: the definition that computes, and the shape of the text.
use Rattle.std.proofs.Common.{◌≡◌, ℕ, ◌<◌, ◌≤◌, Bool, true, false, cond, ltb, leb, eqb, List, [], ◌∷◌, ◌++◌, length, take, drop, Option, Some, None, ℤ, pos, neg_ℤ, refl, sym, ap, ◌∙◌, subst, arith}
use Rattle.std.proofs.lemmas.List.{take-append-drop}
use Rattle.std.proofs.lemmas.List.Sums.{AllPass-from_list_all, list_all-from_AllPass}
use Rattle.std.proofs.lemmas.Bool.Decides.{nat_tests}
use Rattle.std.proofs.lemmas.Int.{ints}
use Rattle.std.proofs.Math.Seq.{drop-append_seam, take-append_seam}
use Rattle.std.specs.List.{AllPass, prefix_len, list_all}
use Rattle.ass_num.specs.Bytes.{minus}
use Rattle.ass_num.specs.Limits.{IsWithin, max_whole}
use Rattle.ass_num.specs.Numerals.{is_blank, is_decimal, sign_len, number_of, IsSign, signed, IsWholeNumber}
use Rattle.ass_num.proofs.Runs.{prefix_len-append, AllPass-take, IsSign-take}
use Rattle.ass_num.proofs.SignFronts.{unsigned_all, sign_before}
use Rattle.ass_num.proofs.Wholes.{no_blank_signed, no_digit_blanks}
use Rattle.ass_num.specs.Wholes.{whole_under, whole_behind, whole_at, whole_of, WholesAreRead}

under_is : (sign digits rest : List ℕ) → 0 < length digits → number_of 10 digits ≤ max_whole → list_all is_blank rest ≡ true → whole_under sign digits rest ≡ Some (signed sign (number_of 10 digits))
under_is sign digits rest some small blanks = grind (arith, nat_tests)

behind_is : (sign digits after : List ℕ) → AllPass is_decimal digits → AllPass is_blank after → whole_behind sign (digits ++ after) ≡ whole_under sign digits after
behind_is sign digits after passes blanks =
    let count : prefix_len is_decimal (digits ++ after) ≡ length digits =
    prefix_len-append is_decimal digits after passes ∙ omega (arith, no_digit_blanks after blanks) in
    ap (λ n. whole_under sign (take n (digits ++ after)) (drop n (digits ++ after))) count
    ∙ (ap (λ xs. whole_under sign xs (drop (length digits) (digits ++ after))) (take-append_seam digits after)
    ∙ ap (whole_under sign digits) (drop-append_seam digits after))

at_is : (sign digits after : List ℕ) → IsSign sign → AllPass is_decimal digits → 0 < length digits → whole_at (sign ++ (digits ++ after)) ≡ whole_behind sign (digits ++ after)
at_is sign digits after is_sign passes some =
    ap (λ n. whole_behind (take n (sign ++ (digits ++ after))) (drop n (sign ++ (digits ++ after)))) (sign_before sign digits after is_sign (unsigned_all digits passes some))
    ∙ (ap (λ xs. whole_behind xs (drop (length sign) (sign ++ (digits ++ after)))) (take-append_seam sign (digits ++ after))
    ∙ ap (whole_behind sign) (drop-append_seam sign (digits ++ after)))

-- a text of the shape has its number
pub whole_from_shape : (t : List ℕ) (z : ℤ) → IsWholeNumber t z → whole_of t ≡ Some z
unfolding whole_of
whole_from_shape t z m =
    let tail = m.sign ++ (m.digits ++ m.after) in
    let count : prefix_len is_blank t ≡ length m.before =
    ap (prefix_len is_blank) m.spelled ∙ prefix_len-append is_blank m.before tail m.blanks_before
    ∙ omega (arith, no_blank_signed m.sign m.digits m.after m.sign_or_none m.all_digits m.some_digit) in
    let behind : drop (prefix_len is_blank t) t ≡ tail =
    ap (λ n. drop n t) count ∙ (ap (drop (length m.before)) m.spelled ∙ drop-append_seam m.before tail) in
    ap whole_at behind
    ∙ (at_is m.sign m.digits m.after m.sign_or_none m.all_digits m.some_digit
    ∙ (behind_is m.sign m.digits m.after m.all_digits m.blanks_after
    ∙ (under_is m.sign m.digits m.after m.some_digit m.small (list_all-from_AllPass is_blank m.after m.blanks_after) ∙ ap Some (sym m.value))))

record Under (sign digits rest : List ℕ) (z : ℤ) : Type 0 where
  some : 0 < length digits
  small : number_of 10 digits ≤ max_whole
  blanks : list_all is_blank rest ≡ true
  value : z ≡ signed sign (number_of 10 digits)

under_shape : (sign digits rest : List ℕ) (z : ℤ) → whole_under sign digits rest ≡ Some z → Under sign digits rest z
under_shape sign digits rest z e = cases _ _ _ refl refl refl
  where
    cases : (a b c : Bool) → ltb 0 (length digits) ≡ a → leb (number_of 10 digits) max_whole ≡ b → list_all is_blank rest ≡ c → Under sign digits rest z
    cases true true true ea eb ec = record { some = grind (arith, nat_tests); small = grind (arith, nat_tests); blanks = ec; value = grind (arith, nat_tests) }
    cases false b c ea eb ec = absurd (grind (arith, nat_tests))
    cases true false c ea eb ec = absurd (grind (arith, nat_tests))
    cases true true false ea eb ec = absurd (grind (arith, nat_tests))

-- the number that a text has comes of its shape
pub shape_from_whole : (t : List ℕ) (z : ℤ) → whole_of t ≡ Some z → IsWholeNumber t z
unfolding whole_of
shape_from_whole t z e =
    let b = prefix_len is_blank t in
    let u = drop b t in
    let v = drop (sign_len u) u in
    let d = prefix_len is_decimal v in
    let m = under_shape (take (sign_len u) u) (take d v) (drop d v) z e in
    record {
      before = take b t;
      sign = take (sign_len u) u;
      digits = take d v;
      after = drop d v;
      spelled = sym (take-append-drop b t) ∙ ap (λ xs. take b t ++ xs) (sym (take-append-drop (sign_len u) u) ∙ ap (λ xs. take (sign_len u) u ++ xs) (sym (take-append-drop d v)));
      blanks_before = AllPass-take is_blank t;
      sign_or_none = IsSign-take u;
      all_digits = AllPass-take is_decimal v;
      some_digit = m.some;
      blanks_after = AllPass-from_list_all is_blank (drop d v) m.blanks;
      small = m.small;
      value = m.value;
    }

-- a text that is no whole number has none
pub no_whole : (t : List ℕ) → ((z : ℤ) → IsWholeNumber t z → ⊥) → None ≡ whole_of t
no_whole t none = sym (cases (whole_of t) refl)
  where
    cases : (o : Option ℤ) → whole_of t ≡ o → o ≡ None
    cases None e = refl
    cases (Some z) e = absurd (none z (shape_from_whole t z e))

signed_within : (limit : ℕ) (sign : List ℕ) (n : ℕ) → n ≤ limit → IsWithin limit (signed sign n)
signed_within limit [] n small = omega (arith, ints)
signed_within limit (c ∷ cs) n small = under (eqb c minus)
  where
    under : (b : Bool) → IsWithin limit (cond b (neg_ℤ (pos n)) (pos n))
    under true = omega (arith, ints)
    under false = omega (arith, ints)

-- the number of a text lies within the range of whole numbers
pub whole_within : (t : List ℕ) (z : ℤ) → whole_of t ≡ Some z → IsWithin max_whole z
whole_within t z e =
    let m = shape_from_whole t z e in
    subst (λ (v : ℤ). IsWithin max_whole v) (sym m.value) (signed_within max_whole m.sign (number_of 10 m.digits) m.small)

pub wholes_read : WholesAreRead
wholes_read t z = (shape_from_whole t z, whole_from_shape t z)
