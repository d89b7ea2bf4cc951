-- Where a text may be cut: behind a run of ASCII bytes, and behind a byte order mark.
use Rattle.std.proofs.Common.{◌≡◌, ℕ, zero, suc, ◌+◌, ◌<◌, Bool, true, false, cond, eqb, ◌&&◌, List, [], ◌∷◌, ◌++◌, length, get_or, refl, ap, ◌∙◌, subst, arith}
use Rattle.std.specs.List.{prefix_len, starts_with}
use Rattle.std.specs.Bool.{nat_eq}
use Rattle.std.specs.Str.{IsUtf8, IsCharBoundary}
use Rattle.std.specs.Char.{encode_utf8}
use Rattle.std.proofs.lemmas.Str.{IsCharBoundary-start, IsCharBoundary-after_ascii, IsCharBoundary-from_drop, IsUtf8-past_char}
use Rattle.std.proofs.lemmas.Bool.{false≢true}
use Rattle.std.proofs.lemmas.Bool.Decides.{nat_tests}
use Rattle.ass_script.specs.Words.{is_star_or_blank}
use Rattle.std.proofs.lemmas.List.Sums.{prefix_len-le-length}

-- each byte of the run passes
passes_at : (p : ℕ → Bool) (text : List ℕ) (k : ℕ) → k < prefix_len p text → p (get_or text k 0) ≡ true
passes_at p [] k below = absurd (omega arith)
passes_at p (c ∷ cs) k below = at (p c) refl k below (λ j h. passes_at p cs j h)
  where
    at : (b : Bool) → p c ≡ b → (k : ℕ) → k < cond b (1 + prefix_len p cs) 0 → ((j : ℕ) → j < prefix_len p cs → p (get_or cs j 0) ≡ true) → p (get_or (c ∷ cs) k 0) ≡ true
    at false e k h behind = absurd (omega arith)
    at true e zero h behind = e
    at true e (suc k) h behind = behind k (omega arith)

pub boundary_behind : (p : ℕ → Bool) → ((c : ℕ) → p c ≡ true → c < 128) → (text : List ℕ) → IsUtf8 text → (n : ℕ) → n ≡ prefix_len p text → IsCharBoundary text n
boundary_behind p ascii text utf8 zero is = IsCharBoundary-start text utf8
boundary_behind p ascii text utf8 (suc k) is =
    let low : get_or text k 0 < 128 = ascii (get_or text k 0) (passes_at p text k (omega arith)) in
    let inside : k < length text = omega (arith, prefix_len-le-length p text) in
    let next : k + 1 ≡ suc k = omega arith in
    subst (λ (n : ℕ). IsCharBoundary text n) next (IsCharBoundary-after_ascii text k utf8 inside low)

pub star_or_blank_is_ascii : (c : ℕ) → is_star_or_blank c ≡ true → c < 128
star_or_blank_is_ascii c e = grind (arith, nat_tests)

pub boundary_behind_mark : (text : List ℕ) → IsUtf8 text → starts_with nat_eq text (239 ∷ (187 ∷ (191 ∷ []))) ≡ true → IsCharBoundary text 3
unfolding encode_utf8
boundary_behind_mark [] utf8 e = absurd (false≢true e)
boundary_behind_mark (x ∷ []) utf8 e = absurd (false≢true (short x e))
  where
    short : (x : ℕ) → (eqb 239 x && false) ≡ true → false ≡ true
    short x e = grind (arith, nat_tests)
boundary_behind_mark (x ∷ (y ∷ [])) utf8 e = absurd (false≢true (short x y e))
  where
    short : (x y : ℕ) → (eqb 239 x && (eqb 187 y && false)) ≡ true → false ≡ true
    short x y e = grind (arith, nat_tests)
boundary_behind_mark (x ∷ (y ∷ (z ∷ rest))) utf8 e =
    let first = mark x y z e in
    let spelled : (x ∷ (y ∷ (z ∷ rest))) ≡ encode_utf8 65279 ++ rest = ap (λ v. v ∷ (y ∷ (z ∷ rest))) first.0 ∙ (ap (λ v. 239 ∷ (v ∷ (z ∷ rest))) first.1 ∙ ap (λ v. 239 ∷ (187 ∷ (v ∷ rest))) first.2) in
    IsCharBoundary-from_drop (x ∷ (y ∷ (z ∷ rest))) 3 (omega arith) (IsUtf8-past_char (x ∷ (y ∷ (z ∷ rest))) rest 65279 utf8 spelled)
  where
    mark : (x y z : ℕ) → (eqb 239 x && (eqb 187 y && (eqb 191 z && true))) ≡ true → (x ≡ 239) × (y ≡ 187) × (z ≡ 191)
    mark x y z e = (grind (arith, nat_tests), grind (arith, nat_tests), grind (arith, nat_tests))
