-- Sums with the weights 1 2 1, kept behind two zeros.
use Rattle.std.proofs.Common.{◌≡◌, ℕ, ◌+◌, ◌-◌, ◌*◌, ◌/◌, ◌<◌, ◌≤◌, ℤ, pos, ◌+ℤ◌, ◌-ℤ◌, List, length, get_or, ap, ◌∙◌, ⊎_elim, arith}
use Rattle.std.proofs.lemmas.Bool.{cases_lt}
use Rattle.std.proofs.lemmas.Int.{ints}
use Rattle.mask_blur.specs.Lines.{Lays, IsZeroBeside}
use Rattle.mask_blur.specs.Softening.{neighbour_sum, softer}

-- three kinds of places: the two in front, those of w columns, and those behind
by_place : {P : Type 0} (w t : ℕ) → (t < 2 → P) → ((j : ℕ) → t ≡ j + 2 → j < w → P) → (w + 2 ≤ t → P) → P
by_place w t front column behind = ⊎_elim front
    (λ (past : 2 ≤ t). ⊎_elim (λ (within : t < w + 2). column (t - 2) (omega arith) (omega arith)) behind (cases_lt t (w + 2)))
    (cases_lt t 2)

-- what is known of the sums of three rows
pub record Weighs (sums above middle below : List ℕ) (w : ℕ) : Type 0 where
  pub inside : (k : ℕ) → k < w → get_or sums (k + 2) 0 ≡ get_or above k 0 + 2 * get_or middle k 0 + get_or below k 0
  pub before : (k : ℕ) → k < 2 → get_or sums k 0 ≡ 0
  pub behind : (k : ℕ) → w + 2 ≤ k → get_or sums k 0 ≡ 0

pub sums_small : (sums above middle below : List ℕ) (w : ℕ) → Weighs sums above middle below w
    → ((k : ℕ) → get_or above k 0 < 256) → ((k : ℕ) → get_or middle k 0 < 256) → ((k : ℕ) → get_or below k 0 < 256)
    → (k : ℕ) → get_or sums k 0 ≤ 1020
sums_small sums above middle below w are a m b k = by_place w k
    (λ (front : k < 2). omega (arith, are.before k front))
    (λ j (is : k ≡ j + 2) (within : j < w). omega (arith, are.inside j within, ap (λ n. get_or sums n 0) is, a j, m j, b j))
    (λ (past : w + 2 ≤ k). omega (arith, are.behind k past))

-- the sums are the weighted values of the columns, from two columns before x on
sums_line : (sums above middle below : List ℕ) (w : ℕ) (f : ℤ → ℤ → ℕ) (x y : ℤ) → Weighs sums above middle below w
    → ((v : ℤ) → IsZeroBeside (λ u. f u v) x w)
    → ((k : ℕ) → k < w → get_or above k 0 ≡ f (x +ℤ pos k) (y -ℤ pos 1))
    → ((k : ℕ) → k < w → get_or middle k 0 ≡ f (x +ℤ pos k) y)
    → ((k : ℕ) → k < w → get_or below k 0 ≡ f (x +ℤ pos k) (y +ℤ pos 1))
    → (t : ℕ) (u : ℤ) → u ≡ (x -ℤ pos 2) +ℤ pos t → get_or sums t 0 ≡ neighbour_sum (f u) y
sums_line sums above middle below w f x y are zero a m b t u place = by_place w t
    (λ (front : t < 2).
    let out = λ (v : ℤ). (zero v).before u (omega (arith, ints)) in
    omega (arith, are.before t front, out (y -ℤ pos 1), out y, out (y +ℤ pos 1)))
    (λ j (is : t ≡ j + 2) (within : j < w).
    let here : u ≡ x +ℤ pos j = omega (arith, ints) in
    rw here (omega (arith, are.inside j within, ap (λ n. get_or sums n 0) is, a j within, m j within, b j within)))
    (λ (past : w + 2 ≤ t).
    let out = λ (v : ℤ). (zero v).behind u (omega (arith, ints)) in
    omega (arith, are.behind t past, out (y -ℤ pos 1), out y, out (y +ℤ pos 1)))

-- a row of 16ths of sums is a row of the softer picture
pub softer_row : (row sums above middle below : List ℕ) (w : ℕ) (f : ℤ → ℤ → ℕ) (x y : ℤ) → Weighs sums above middle below w
    → length row ≡ w + 2 → length above ≡ w → length middle ≡ w → length below ≡ w
    → ((k : ℕ) → k < length row → get_or row k 0 ≡ (get_or sums k 0 + 2 * get_or sums (k + 1) 0 + get_or sums (k + 2) 0 + 8) / 16)
    → ((v : ℤ) → IsZeroBeside (λ u. f u v) x w)
    → Lays (λ u. f u (y -ℤ pos 1)) x above → Lays (λ u. f u y) x middle → Lays (λ u. f u (y +ℤ pos 1)) x below
    → Lays (λ u. softer f u y) (x -ℤ pos 1) row
softer_row row sums above middle below w f x y are wide al ml bl is zero a m b k h =
    let at = (x -ℤ pos 1) +ℤ pos k in
    let sum = sums_line sums above middle below w f x y are zero (λ j l. a j (omega arith)) (λ j l. m j (omega arith)) (λ j l. b j (omega arith)) in
    let left = sum k (at -ℤ pos 1) (omega (arith, ints)) in
    let here = sum (k + 1) at (omega (arith, ints)) in
    let right = sum (k + 2) (at +ℤ pos 1) (omega (arith, ints)) in
    is k h ∙ ap (λ n. n / 16) (omega (arith, left, here, right))
