-- Numbers and sizes, by their texts.
use Rattle.std.proofs.Common.{◌≡◌, ◌≢◌, ℕ, suc, ◌+◌, ◌<◌, ◌==◌, Bool, true, false, cond, not, ◌&&◌, ◌||◌, List, [], ◌∷◌, length, Option, Some, None, Bor, Result, Ok, refl, sym, ap, ap₂, ◌∙◌, arith, rules, eqb-true, ltb-true}
use Rattle.std.specs.Prelude.{neg_ℤ, option_map}
use Rattle.std.specs.Char.{is_ascii_digit}
use Rattle.std.specs.List.{after_first, before_first, list_all, list_any, position_or_len}
use Rattle.std.specs.Str.Parse.{ParsesUnsigned}
use Rattle.std.proofs.lemmas.Str.Parse.{IsNumeralModel, digits_value_short, numerals_by_weight, parse_gives}
use Rattle.std.proofs.lemmas.Str.Pattern.{IsSplitOnceResult, split_once_first}
use Rattle.ass_num.specs.Numerals.{number_of}
use Rattle.ass_script.specs.Words.{is_comma}
use Rattle.value_texts.specs.Values.{column_in, is_number, pixel_in}

own : IsNumeralModel (λ ds. list_all is_ascii_digit ds ≡ true) (number_of 10)
own = numerals_by_weight _ (search rules) (number_of 10) (search rules)

pub both : (a b : Bool) → a && b ≡ true → (a ≡ true) × (b ≡ true)
both true true e = (refl, refl)
both true false e = cc
both false b e = cc

-- what `parse` gives of a number's text
pub parsed : {E : Type 0} (text : List ℕ) (r : Result ℕ E) → ParsesUnsigned 64 10 text r → is_number text ≡ true → r ≡ Ok (number_of 10 text)
parsed text r h is =
    let some = both _ _ is in
    let digits = both _ _ some.1 in
    parse_gives own 64 text r h digits.1 (ltb-true _ _ some.0) (omega (arith, digits_value_short own text 13 digits.1 (search (rules, digits.0))))

-- where no place is found, no element passes
pub none_passes : (p : ℕ → Bool) (text : List ℕ) → position_or_len p text ≡ length text → list_any p text ≡ false
none_passes p [] e = refl
none_passes p (c ∷ cs) e = cases (p c) e (λ h. none_passes p cs h)
  where
    cases : (b : Bool) → cond (not b) (1 + position_or_len p cs) 0 ≡ suc (length cs) → (position_or_len p cs ≡ length cs → list_any p cs ≡ false) → (b || list_any p cs) ≡ false
    cases true h rest = absurd (omega arith)
    cases false h rest = rest (omega arith)

-- where one is found, one passes
pub some_passes : (p : ℕ → Bool) (text : List ℕ) → position_or_len p text < length text → list_any p text ≡ true
some_passes p [] h = absurd (omega arith)
some_passes p (c ∷ cs) h = cases (p c) h (λ e. some_passes p cs e)
  where
    cases : (b : Bool) → cond (not b) (1 + position_or_len p cs) 0 < suc (length cs) → (position_or_len p cs < length cs → list_any p cs ≡ true) → (b || list_any p cs) ≡ true
    cases true h rest = refl
    cases false h rest = rest (omega arith)

-- the parts of a text that was cut at its first comma
pub cut_at_comma : {A : Type 0} (f : List ℕ → List ℕ → Option A) (text : List ℕ) (r : Option (Bor (List ℕ) × Bor (List ℕ))) (x : Bor (List ℕ) × Bor (List ℕ)) → IsSplitOnceResult 44 text r → r ≡ Some x
    → f x.0.now x.1.now ≡ cond (list_any is_comma text) (f (before_first is_comma text) (after_first is_comma text)) None
cut_at_comma f text r x split is =
    let (inside, front, back) = rw is at (split_once_first 44 text r split (omega arith)) in
    let some : list_any is_comma text ≡ true = some_passes is_comma text inside in
    ap₂ f front back ∙ sym (ap (λ b. cond b (f (before_first is_comma text) (after_first is_comma text)) None) some)

-- a text that doesn't begin with `-`
pub column_without : (text : List ℕ) → ((rest : List ℕ) → text ≢ 45 ∷ rest) → column_in text ≡ pixel_in text
column_without [] h = refl
column_without (c ∷ text) h = cases (c == 45) refl
  where
    cases : (b : Bool) → c == 45 ≡ b → column_in (c ∷ text) ≡ cond b (option_map neg_ℤ (column_in text)) (column_in (c ∷ text))
    cases true e = absurd (h text (ap (λ n. n ∷ text) (eqb-true _ _ e)))
    cases false e = refl
