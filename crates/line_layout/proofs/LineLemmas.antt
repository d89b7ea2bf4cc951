-- Lines that fit, and sets of places.
use Rattle.std.proofs.Common.{ℕ, ℤ, ◌+◌, ◌<◌, ◌≤◌, ◌<ℤ◌, ◌≤ℤ◌, List, [], ◌∷◌, length, get_or, inl, inr, arith}
use Rattle.std.proofs.lemmas.Bool.{cases_lt}
use Rattle.std.proofs.lemmas.Int.{ints, clamps}
use Rattle.line_layout.specs.Breaks.{IsParagraph, width, IsBreakPlace, IsUnbreakable, LineFits, AreFrom, AllFit, widest}
use Rattle.line_layout.proofs.PenLemmas.{pen-le}

pub width-le : (ws : List ℤ) (s : List ℕ) (a b from to : ℕ) → IsParagraph ws s → from ≤ a → b ≤ to → width ws a b ≤ℤ width ws from to
width-le ws s a b from to g l m =
    let h = pen-le ws s from a g l in
    let k = pen-le ws s b to g m in
    omega (arith, ints, h, k)

pub LineFits-part : (ws : List ℤ) (s : List ℕ) (limit : ℤ) (a b from to : ℕ) → IsParagraph ws s → from ≤ a → b ≤ to → LineFits ws s limit from to → LineFits ws s limit a b
LineFits-part ws s limit a b from to g l m (inl h) = inl (let k = width-le ws s a b from to g l m in omega (arith, ints, h, k))
LineFits-part ws s limit a b from to g l m (inr u) = inr (λ p i f t. u p i (omega arith) (omega arith))

pub LineFits-wider : (ws : List ℤ) (s : List ℕ) (limit more : ℤ) (from to : ℕ) → limit ≤ℤ more → LineFits ws s limit from to → LineFits ws s more from to
LineFits-wider ws s limit more from to l (inl h) = inl (omega (arith, ints, h, l))
LineFits-wider ws s limit more from to l (inr u) = inr u

-- a line that is too wide and can be broken
pub LineFits-not : (ws : List ℤ) (s : List ℕ) (limit : ℤ) (from to p : ℕ) → limit <ℤ width ws from to → IsBreakPlace s p → from ≤ p → p < to → LineFits ws s limit from to → ⊥
LineFits-not ws s limit from to p h i f t (inl k) = omega (arith, ints, h, k)
LineFits-not ws s limit from to p h i f t (inr u) = u p i f t

pub AllFit-wider : (ws : List ℤ) (s : List ℕ) (limit more : ℤ) (from : ℕ) (places : List ℕ) → limit ≤ℤ more → AllFit ws s limit from places → AllFit ws s more from places
AllFit-wider ws s limit more from [] l h = LineFits-wider ws s limit more from (length ws) l h
AllFit-wider ws s limit more from (p ∷ places) l h = (LineFits-wider ws s limit more from p l h.0, AllFit-wider ws s limit more (p + 1) places l h.1)

-- lines that are no wider than the widest fit under its width
pub AllFit-widest : (ws : List ℤ) (s : List ℕ) (limit : ℤ) (from : ℕ) (places : List ℕ) → widest ws from places ≤ℤ limit → AllFit ws s limit from places
AllFit-widest ws s limit from [] l = inl l
AllFit-widest ws s limit from (p ∷ places) l =
    (inl (omega (arith, ints, clamps, l)), AllFit-widest ws s limit (p + 1) places (omega (arith, ints, clamps, l)))

-- what can't be broken lies in one line
pub inside : (ws : List ℤ) (s : List ℕ) (from a b : ℕ) (places : List ℕ) → IsParagraph ws s → IsUnbreakable s a b → from ≤ a → b ≤ length ws → AreFrom s from places → width ws a b ≤ℤ widest ws from places
inside ws s from a b [] g u l m h = width-le ws s a b from (length ws) g l m
inside ws s from a b (p ∷ places) g u l m h =
    elim (cases_lt p b) [
      | inl k ↦
          elim (cases_lt p a) [
            | inl j ↦
                let i = inside ws s (p + 1) a b places g u (omega arith) m h.2 in
                omega (arith, ints, clamps, i)
            | inr j ↦ absurd (u p h.0 j k)
          ]
      | inr k ↦
          let i = width-le ws s a b from p g l k in
          omega (arith, ints, clamps, i)
    ]

line_le : (ws : List ℤ) (s : List ℕ) (limit bound : ℤ) (from to : ℕ) → limit ≤ℤ bound → (IsUnbreakable s from to → width ws from to ≤ℤ bound) → LineFits ws s limit from to → width ws from to ≤ℤ bound
line_le ws s limit bound from to l words (inl n) = omega (arith, ints, l, n)
line_le ws s limit bound from to l words (inr u) = words u

-- a bound on all lines that fit
pub widest-le : (ws : List ℤ) (s : List ℕ) (limit bound : ℤ) (from : ℕ) (places : List ℕ) → limit ≤ℤ bound → ((a b : ℕ) → b ≤ length ws → IsUnbreakable s a b → width ws a b ≤ℤ bound) → ((k : ℕ) → k < length s → get_or s k 0 < length ws) → AreFrom s from places → AllFit ws s limit from places → widest ws from places ≤ℤ bound
widest-le ws s limit bound from [] l words w h (inl n) = omega (arith, ints, l, n)
widest-le ws s limit bound from [] l words w h (inr u) = words from (length ws) (omega arith) u
widest-le ws s limit bound from (p ∷ places) l words w h f =
    let rest = widest-le ws s limit bound (p + 1) places l words w h.2 f.1 in
    let here : width ws from p ≤ℤ bound = line_le ws s limit bound from p l (λ u. words from p (let i = w h.0.0 h.0.1 in let e = h.0.2 in omega (arith, i, e)) u) f.0 in
    omega (arith, ints, clamps, rest, here)
