-- What is picked from a list where one more stands at its end.
use Rattle.std.proofs.Common.{◌≡◌, ℕ, suc, ◌+◌, Bool, true, false, cond, not, ◌||◌, List, [], ◌∷◌, ◌++◌, length, ◌<◌, Option, Some, None, refl, ap, ◌∙◌, subst, arith, zero-add}
use Rattle.std.specs.Prelude.{IfSome}
use Rattle.std.specs.List.{position_or_len, list_any}
use Rattle.std.specs.Option.{option_or}
use Rattle.std.specs.Str.{bytes_eq}
use Rattle.ass_script.specs.Words.{is_colon}
use Rattle.ass_script.specs.Scripts.{last_named_from, last_named}
use Rattle.ass_script.specs.declared.style.Style.{Style}

-- where no place is found, no element passes
pub none_passes : (text : List ℕ) → position_or_len is_colon text ≡ length text → list_any is_colon text ≡ false
none_passes [] e = refl
none_passes (c ∷ cs) e = cases (is_colon c) e (λ h. none_passes cs h)
  where
    cases : (b : Bool) → cond (not b) (1 + position_or_len is_colon cs) 0 ≡ suc (length cs) → (position_or_len is_colon cs ≡ length cs → list_any is_colon cs ≡ false) → (b || list_any is_colon cs) ≡ false
    cases true h rest = absurd (omega arith)
    cases false h rest = rest (omega arith)

-- the last style of a name, where one more style comes
named_more : (n : ℕ) (name : List ℕ) (styles : List Style) (style : Style) → last_named_from n name (styles ++ style ∷ []) ≡ cond (bytes_eq style.name name) (Some (n + length styles)) (last_named_from n name styles)
named_more n name [] style = cases (bytes_eq style.name name)
  where
    here : n ≡ n + 0
    here = omega arith

    cases : (b : Bool) → cond b (Some n) None ≡ cond b (Some (n + 0)) None
    cases true = ap Some here
    cases false = refl
named_more n name (x ∷ xs) style = ap (λ o. option_or o (cond (bytes_eq x.name name) (Some n) None)) (named_more (n + 1) name xs style) ∙ cases (bytes_eq style.name name)
  where
    count : (n + 1) + length xs ≡ n + suc (length xs)
    count = omega arith

    cases : (b : Bool) → option_or (cond b (Some ((n + 1) + length xs)) (last_named_from (n + 1) name xs)) (cond (bytes_eq x.name name) (Some n) None)
        ≡ cond b (Some (n + suc (length xs))) (option_or (last_named_from (n + 1) name xs) (cond (bytes_eq x.name name) (Some n) None))
    cases true = ap Some count
    cases false = refl

pub last_named_more : (name : List ℕ) (styles : List Style) (style : Style) → last_named name (styles ++ style ∷ []) ≡ cond (bytes_eq style.name name) (Some (length styles)) (last_named name styles)
last_named_more name styles style = named_more 0 name styles style ∙ ap (λ (k : ℕ). cond (bytes_eq style.name name) (Some k) (last_named name styles)) (zero-add (length styles))

-- the last style of a name stands among the styles
named_within : (n : ℕ) (name : List ℕ) (styles : List Style) → IfSome (last_named_from n name styles) (λ k. k < n + length styles)
named_within n name [] = tt
named_within n name (x ∷ xs) = either (last_named_from (n + 1) name xs) (bytes_eq x.name name) (named_within (n + 1) name xs)
  where
    either : (o : Option ℕ) (b : Bool) → IfSome o (λ k. k < (n + 1) + length xs) → IfSome (option_or o (cond b (Some n) None)) (λ k. k < n + suc (length xs))
    either (Some k) b inside = omega arith
    either None true inside = omega arith
    either None false inside = tt

pub last_within : (name : List ℕ) (styles : List Style) → IfSome (last_named name styles) (λ k. k < length styles)
last_within name styles =
    let P : ℕ → Type 0 = λ m. IfSome (last_named name styles) (λ k. k < m) in
    subst P (zero-add (length styles)) (named_within 0 name styles)

pub or_within : (m : ℕ) (o p : Option ℕ) → IfSome o (λ k. k < m) → IfSome p (λ k. k < m) → IfSome (option_or o p) (λ k. k < m)
or_within m (Some k) p first second = first
or_within m None p first second = second
