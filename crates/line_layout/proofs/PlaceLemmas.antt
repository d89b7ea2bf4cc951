-- The break places in order, and the lines between them.
use Rattle.std.proofs.Common.{◌≡◌, ℕ, zero, suc, ℤ, ◌+◌, ◌-◌, ◌<◌, ◌≤◌, false, eqb, List, length, get_or, inl, inr, refl, ap, ◌∙◌, arith}
use Rattle.std.proofs.lemmas.Bool.{cases_lt}
use Rattle.std.proofs.lemmas.Bool.Decides.{nat_tests}
use Rattle.std.proofs.lemmas.List.{get_or_default, get_or_past}
use Rattle.line_layout.specs.Breaks.{IsParagraph}
use Rattle.line_layout.specs.Filling.{line_start, line_end}

ascending-add : (ws : List ℤ) (s : List ℕ) (i d : ℕ) → IsParagraph ws s → i + d + 1 < length s → get_or s i 0 < get_or s (i + d + 1) 0
ascending-add ws s i zero g l =
    let e : get_or s (i + 0 + 1) 0 ≡ get_or s (i + 1) 0 = ap (λ k. get_or s k 0) (omega arith) in
    let a = g.ascending i (omega arith) in
    omega (arith, e, a)
ascending-add ws s i (suc d) g l =
    let e : get_or s (i + suc d + 1) 0 ≡ get_or s (i + d + 1 + 1) 0 = ap (λ k. get_or s k 0) (omega arith) in
    let a = g.ascending (i + d + 1) (omega arith) in
    let h = ascending-add ws s i d g (omega arith) in
    omega (arith, e, a, h)

pub places-lt : (ws : List ℤ) (s : List ℕ) (i j : ℕ) → IsParagraph ws s → i < j → j < length s → get_or s i 0 < get_or s j 0
places-lt ws s i j g l m =
    let e : get_or s (i + (j - i - 1) + 1) 0 ≡ get_or s j 0 = ap (λ k. get_or s k 0) (omega arith) in
    let h = ascending-add ws s i (j - i - 1) g (omega arith) in
    omega (arith, e, h)

pub places-le : (ws : List ℤ) (s : List ℕ) (i j : ℕ) → IsParagraph ws s → i ≤ j → j < length s → get_or s i 0 ≤ get_or s j 0
places-le ws s i j g l m =
    elim (cases_lt i j) [
      | inl k ↦ let h = places-lt ws s i j g k m in omega (arith, h)
      | inr k ↦ let e : get_or s i 0 ≡ get_or s j 0 = ap (λ n. get_or s n 0) (omega arith) in omega (arith, e)
    ]

-- which of two places comes first, by their values
pub place-index : (ws : List ℤ) (s : List ℕ) (i j : ℕ) → IsParagraph ws s → i < length s → j < length s → get_or s i 0 < get_or s j 0 → i < j
place-index ws s i j g l m h =
    elim (cases_lt i j) [
      | inl k ↦ k
      | inr k ↦ let b = places-le ws s j i g k l in absurd (omega (arith, h, b))
    ]

pub start-next : (s : List ℕ) (k : ℕ) → line_start s (k + 1) ≡ get_or s k 0 + 1
start-next s k =
    let e : eqb (k + 1) 0 ≡ false = grind (arith, nat_tests) in
    let f : k + 1 - 1 ≡ k = omega arith in
    rw (e, f) refl

pub start-at : (s : List ℕ) (j k : ℕ) → k ≡ j + 1 → line_start s k ≡ get_or s j 0 + 1
start-at s j k e = ap (line_start s) e ∙ start-next s j

-- places before a line's start
pub before-start : (ws : List ℤ) (s : List ℕ) (j k : ℕ) → IsParagraph ws s → j < k → k ≤ length s → get_or s j 0 < line_start s k
before-start ws s j k g l m =
    let e = start-at s (k - 1) k (omega arith) in
    let h = places-le ws s j (k - 1) g (omega arith) (omega arith) in
    omega (arith, e, h)

-- and from it on
pub from-start : (ws : List ℤ) (s : List ℕ) (j k : ℕ) → IsParagraph ws s → k ≤ j → j < length s → line_start s k ≤ get_or s j 0
from-start ws s j zero g l m = omega arith
from-start ws s j (suc k) g l m =
    let e = start-at s k (suc k) (omega arith) in
    let h = places-lt ws s k j g (omega arith) m in
    omega (arith, e, h)

pub from-start-index : (ws : List ℤ) (s : List ℕ) (j k : ℕ) → IsParagraph ws s → k ≤ length s → line_start s k ≤ get_or s j 0 → k ≤ j
from-start-index ws s j k g m h =
    elim (cases_lt j k) [
      | inl l ↦ let b = before-start ws s j k g l m in absurd (omega (arith, h, b))
      | inr l ↦ l
    ]

pub end-place : (ws : List ℤ) (s : List ℕ) (k : ℕ) → k < length s → line_end ws s k ≡ get_or s k 0
end-place ws s k l = get_or_default s k (length ws) 0 l

pub end-last : (ws : List ℤ) (s : List ℕ) (k : ℕ) → length s ≤ k → line_end ws s k ≡ length ws
end-last ws s k l = get_or_past s k (length ws) l

pub end-within : (ws : List ℤ) (s : List ℕ) (k : ℕ) → IsParagraph ws s → line_end ws s k ≤ length ws
end-within ws s k g =
    elim (cases_lt k (length s)) [
      | inl l ↦ let e = end-place ws s k l in let h = g.within k l in omega (arith, e, h)
      | inr l ↦ let e = end-last ws s k l in omega (arith, e)
    ]

pub start-le-end : (ws : List ℤ) (s : List ℕ) (k : ℕ) → IsParagraph ws s → k ≤ length s → line_start s k ≤ line_end ws s k
start-le-end ws s k g m =
    elim (cases_lt k (length s)) [
      | inl l ↦ let e = end-place ws s k l in let h = from-start ws s k k g (omega arith) l in omega (arith, e, h)
      | inr l ↦
          let e = end-last ws s k l in
          elim (cases_lt 0 k) [
            | inl z ↦
                let f = start-at s (k - 1) k (omega arith) in
                let h = g.within (k - 1) (omega arith) in
                omega (arith, e, f, h)
            | inr z ↦
                let i : k ≡ 0 = omega arith in
                let f : line_start s k ≡ line_start s 0 = ap (line_start s) i in
                omega (arith, e, f)
          ]
    ]
