-- The unbroken line only grows, and by little at each item.
use Rattle.std.proofs.Common.{◌≡◌, ℕ, zero, suc, ℤ, pos, ◌+◌, ◌-◌, ◌*◌, ◌^◌, ◌<◌, ◌≤◌, ◌+ℤ◌, ◌≤ℤ◌, List, length, get_or, fold, inl, inr, sym, ap, ◌∙◌, arith}
use Rattle.std.proofs.lemmas.Bool.{cases_lt}
use Rattle.std.proofs.lemmas.Int.{ints}
use Rattle.std.proofs.lemmas.List.{take_all}
use Rattle.std.proofs.lemmas.List.Sums.{fold_more}
use Rattle.line_layout.specs.Breaks.{max_width, IsParagraph, pen}

pub pen-more : (ws : List ℤ) (k : ℕ) → k < length ws → pen ws (k + 1) ≡ pen ws k +ℤ get_or ws k (pos 0)
pen-more ws k l = fold_more ◌+ℤ◌ (pos 0) ws k (pos 0) l

pub pen-past : (ws : List ℤ) (k : ℕ) → length ws ≤ k → pen ws k ≡ pen ws (length ws)
pen-past ws k l = ap (fold ◌+ℤ◌ (pos 0)) (take_all k ws l ∙ sym (take_all (length ws) ws (omega arith)))

pen-step : (ws : List ℤ) (s : List ℕ) (k : ℕ) → IsParagraph ws s → pen ws k ≤ℤ pen ws (k + 1)
pen-step ws s k g =
    elim (cases_lt k (length ws)) [
      | inl l ↦
          let e = pen-more ws k l in
          let n = (g.narrow k (pos 0) l).0 in
          omega (arith, ints, e, n)
      | inr l ↦
          let e = pen-past ws k l in
          let f = pen-past ws (k + 1) (omega arith) in
          omega (arith, ints, e, f)
    ]

pen-add : (ws : List ℤ) (s : List ℕ) (k d : ℕ) → IsParagraph ws s → pen ws k ≤ℤ pen ws (k + d)
pen-add ws s k zero g = let e : pen ws (k + 0) ≡ pen ws k = ap (pen ws) (omega arith) in omega (arith, ints, e)
pen-add ws s k (suc d) g =
    let e : pen ws (k + suc d) ≡ pen ws (k + d + 1) = ap (pen ws) (omega arith) in
    let f = pen-step ws s (k + d) g in
    let h = pen-add ws s k d g in
    omega (arith, ints, e, f, h)

pub pen-le : (ws : List ℤ) (s : List ℕ) (a b : ℕ) → IsParagraph ws s → a ≤ b → pen ws a ≤ℤ pen ws b
pen-le ws s a b g l =
    let e : pen ws (a + (b - a)) ≡ pen ws b = ap (pen ws) (omega arith) in
    let f = pen-add ws s a (b - a) g in
    omega (arith, ints, e, f)

pub pen-above : (ws : List ℤ) (s : List ℕ) (k : ℕ) → IsParagraph ws s → pos 0 ≤ℤ pen ws k
pen-above ws s k g = pen-le ws s 0 k g (omega arith)

pen-below : (ws : List ℤ) (s : List ℕ) (k : ℕ) → IsParagraph ws s → k ≤ length ws → pen ws k ≤ℤ pos (k * max_width)
pen-below ws s zero g l = omega (arith, ints)
pen-below ws s (suc k) g l =
    let i : suc k ≡ k + 1 = omega arith in
    let e : pen ws (suc k) ≡ pen ws (k + 1) = ap (pen ws) i in
    let f = pen-more ws k (omega arith) in
    let n = (g.narrow k (pos 0) (omega arith)).1 in
    let h = pen-below ws s k g (omega arith) in
    omega (arith, ints, e, f, n, h)

pub pen-small : (ws : List ℤ) (s : List ℕ) (k : ℕ) → IsParagraph ws s → k ≤ length ws → pen ws k ≤ℤ pos (2 ^ 47)
pen-small ws s k g l =
    let h = pen-below ws s k g l in
    let n = g.short in
    omega (arith, ints, h, n)
