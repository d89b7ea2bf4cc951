-- Runs of bytes at the front of a text: what a test passes, and a sign.
use Rattle.std.proofs.Common.{◌≡◌, ℕ, suc, ◌+◌, ◌<◌, ◌≤◌, Bool, true, false, cond, ◌⊎◌, inl, inr, List, [], ◌∷◌, ◌++◌, length, take, drop, refl, sym, ap, ◌∙◌, subst, arith, append_assoc, length-append}
use Rattle.std.proofs.lemmas.List.{take-append-drop, get_or-take, length-take-le, length-take, drop-drop, append-nil, take_all}
use Rattle.std.proofs.lemmas.List.Elements.{All-head, All-tail}
use Rattle.std.proofs.lemmas.List.Sums.{prefix_len_passes}
use Rattle.std.proofs.lemmas.Bool.Decides.{nat_tests}
use Rattle.std.specs.List.{prefix_len, AllPass}
use Rattle.ass_num.specs.Numerals.{is_blank, is_decimal, is_hexadecimal, is_mark, is_sign, sign_len, IsSign}

-- a group that passes counts whole, whatever follows it
pub prefix_len-append : (p : ℕ → Bool) (xs ys : List ℕ) → AllPass p xs → prefix_len p (xs ++ ys) ≡ length xs + prefix_len p ys
prefix_len-append p [] ys all = omega arith
prefix_len-append p (x ∷ xs) ys all =
    let yes : p x ≡ true = All-head (λ c. p c ≡ true) x xs all in
    let rest = prefix_len-append p xs ys (All-tail (λ c. p c ≡ true) x xs all) in
    ap (λ b. cond b (1 + prefix_len p (xs ++ ys)) 0) yes ∙ omega (arith, rest)

-- what stands before the first byte that fails passes
pub AllPass-take : (p : ℕ → Bool) (xs : List ℕ) → AllPass p (take (prefix_len p xs) xs)
AllPass-take p xs = λ k d inside.
    let within : k < prefix_len p xs = omega (arith, length-take (prefix_len p xs) xs) in
    rw (get_or-take (prefix_len p xs) xs k d within) (prefix_len_passes p xs k d within)

-- a text after a prefix of it
pub rest_of_front : (t a b : List ℕ) (k : ℕ) → take k t ≡ a ++ b → t ≡ a ++ (b ++ drop k t)
rest_of_front t a b k e = sym (take-append-drop k t) ∙ ap (λ z. z ++ drop k t) e ∙ append_assoc a b (drop k t)

-- the rest of a text from a place on, cut once more
pub cut_at : (i n : ℕ) (t : List ℕ) → drop i t ≡ take n (drop i t) ++ drop (i + n) t
cut_at i n t = sym (take-append-drop n (drop i t)) ∙ ap (λ z. take n (drop i t) ++ z) (drop-drop n i t)

-- Where all passes, all counts; and where all counts, all passes.
pub prefix_len_all : (p : ℕ → Bool) (xs : List ℕ) → AllPass p xs → prefix_len p xs ≡ length xs
prefix_len_all p xs all = ap (prefix_len p) (sym (append-nil xs)) ∙ prefix_len-append p xs [] all ∙ omega arith

pub AllPass-from_prefix_len : (p : ℕ → Bool) (xs : List ℕ) → length xs ≤ prefix_len p xs → AllPass p xs
AllPass-from_prefix_len p xs whole =
    let P : List ℕ → Type 0 = λ z. AllPass p z in
    subst P (take_all (prefix_len p xs) xs whole) (AllPass-take p xs)

-- the length of a front
pub length_front : (t a b : List ℕ) (k : ℕ) → k ≤ length t → take k t ≡ a ++ b → k ≡ length a + length b
length_front t a b k inside e = sym (length-take-le k t inside) ∙ ap length e ∙ length-append a b

-- ---- which bytes exclude each other

pub decimal_no_sign : (c : ℕ) → is_decimal c ≡ true → is_sign c ≡ false
decimal_no_sign c passes = grind (arith, nat_tests)

pub decimal_no_blank : (c : ℕ) → is_decimal c ≡ true → is_blank c ≡ false
decimal_no_blank c passes = grind (arith, nat_tests)

pub hexadecimal_no_mark : (c : ℕ) → is_hexadecimal c ≡ true → is_mark c ≡ false
hexadecimal_no_mark c passes = grind (arith, nat_tests)

pub mark_no_sign : (c : ℕ) → is_mark c ≡ true → is_sign c ≡ false
mark_no_sign c passes = grind (arith, nat_tests)

pub sign_no_blank : (c : ℕ) → is_sign c ≡ true → is_blank c ≡ false
sign_no_blank c passes = grind (arith, nat_tests)

pub blank_no_decimal : (c : ℕ) → is_blank c ≡ true → is_decimal c ≡ false
blank_no_decimal c passes = grind (arith, nat_tests)

-- ---- signs

-- a sign before what is none
pub sign_len-append : (sign : List ℕ) (c : ℕ) (cs : List ℕ) → IsSign sign → is_sign c ≡ false → sign_len (sign ++ (c ∷ cs)) ≡ length sign
sign_len-append sign c cs (inl e) none = rw e (ap (λ b. cond b 1 0) none)
sign_len-append sign c cs (inr (inl e)) none = rw e refl
sign_len-append sign c cs (inr (inr e)) none = rw e refl

pub sign_len_le : (t : List ℕ) → sign_len t ≤ length t
sign_len_le [] = omega arith
sign_len_le (c ∷ cs) = at_most_one (is_sign c) (length cs)
  where
    at_most_one : (b : Bool) (n : ℕ) → cond b 1 0 ≤ suc n
    at_most_one true n = omega arith
    at_most_one false n = omega arith

sign_of : (c : ℕ) → is_sign c ≡ true → (c ≡ 43) ⊎ (c ≡ 45)
sign_of c passes = grind (arith, nat_tests)

first_sign : (c : ℕ) (cs : List ℕ) (b : Bool) → is_sign c ≡ b → IsSign (take (cond b 1 0) (c ∷ cs))
first_sign c cs false e = inl refl
first_sign c cs true e = elim (sign_of c e) [ inl plus ↦ inr (inl (ap (λ z. z ∷ []) plus)) | inr minus ↦ inr (inr (ap (λ z. z ∷ []) minus)) ]

pub IsSign-take : (t : List ℕ) → IsSign (take (sign_len t) t)
IsSign-take [] = inl refl
IsSign-take (c ∷ cs) = first_sign c cs (is_sign c) refl
