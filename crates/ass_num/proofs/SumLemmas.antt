-- Sums of values in a row.
use Rattle.std.proofs.Common.{◌≡◌, ℕ, zero, suc, ◌+◌, ◌*◌, ◌<◌, ◌≤◌, ℤ, pos, ◌+ℤ◌, ◌<ℤ◌, ◌≤ℤ◌, refl, ap, arith}
use Rattle.std.proofs.lemmas.Int.{ints, by_lt_z}
use Rattle.ass_num.specs.Coverage.{sum_from}

-- equal values have equal sums
pub sum_from-same : (f g : ℤ → ℕ) (i j : ℤ) (n : ℕ) → ((k : ℕ) → k < n → f (i +ℤ pos k) ≡ g (j +ℤ pos k)) → sum_from f i n ≡ sum_from g j n
unfolding sum_from
sum_from-same f g i j zero same = refl
sum_from-same f g i j (suc n) same = omega (arith, sum_from-same f g i j n (λ k h. same k (omega arith)), same n (omega arith))

-- a window moved on by one loses its first value and gains the next
pub sum_from-next : (f : ℤ → ℕ) (i : ℤ) (n : ℕ) → sum_from f (i +ℤ pos 1) n + f i ≡ sum_from f i n + f (i +ℤ pos n)
unfolding sum_from
sum_from-next f i zero = let here : i +ℤ pos 0 ≡ i = omega (arith, ints) in omega (arith, ap f here)
sum_from-next f i (suc n) =
    let here : (i +ℤ pos 1) +ℤ pos n ≡ i +ℤ pos (suc n) = omega (arith, ints) in
    omega (arith, sum_from-next f i n, ap f here)

pub sum_from-zero : (f : ℤ → ℕ) (i : ℤ) (n : ℕ) → ((k : ℕ) → k < n → f (i +ℤ pos k) ≡ 0) → sum_from f i n ≡ 0
unfolding sum_from
sum_from-zero f i zero none = refl
sum_from-zero f i (suc n) none = omega (arith, sum_from-zero f i n (λ k h. none k (omega arith)), none n (omega arith))

pub sum_from-bound : (f : ℤ → ℕ) (i : ℤ) (n most : ℕ) → ((k : ℕ) → k < n → f (i +ℤ pos k) ≤ most) → sum_from f i n ≤ most * n
unfolding sum_from
sum_from-bound f i zero most bound = omega arith
sum_from-bound f i (suc n) most bound = omega (arith, sum_from-bound f i n most (λ k h. bound k (omega arith)), bound n (omega arith))

pub sum_from-add : (f g h : ℤ → ℕ) (i : ℤ) (n : ℕ) → ((k : ℤ) → f k ≡ g k + h k) → sum_from f i n ≡ sum_from g i n + sum_from h i n
unfolding sum_from
sum_from-add f g h i zero e = refl
sum_from-add f g h i (suc n) e = omega (arith, sum_from-add f g h i n e, e (i +ℤ pos n))

-- a positive one makes the sum positive, and in a positive sum some one is
pub sum_from-positive : (f : ℤ → ℕ) (i : ℤ) (n b : ℕ) → b < n → 0 < f (i +ℤ pos b) → 0 < sum_from f i n
unfolding sum_from
sum_from-positive f i zero b p h = absurd (omega arith)
sum_from-positive f i (suc n) b p h = by_lt_z (pos b) (pos n)
    (λ (less : pos b <ℤ pos n). omega (arith, sum_from-positive f i n b (omega (arith, ints)) h))
    (λ (order : pos n ≤ℤ pos b). let same : b ≡ n = omega (arith, ints) in omega (arith, h, ap (λ z. f (i +ℤ pos z)) same))

pub some_positive : (f : ℤ → ℕ) (i : ℤ) (n : ℕ) → 0 < sum_from f i n → (b : ℕ) × (b < n) × (0 < f (i +ℤ pos b))
unfolding sum_from
some_positive f i zero h = absurd (omega arith)
some_positive f i (suc n) h = by_lt_z (pos 0) (pos (sum_from f i n))
    (λ (some : pos 0 <ℤ pos (sum_from f i n)). let r = some_positive f i n (omega (arith, ints)) in (r.0, omega (arith, r.1), r.2))
    (λ (none : pos (sum_from f i n) ≤ℤ pos 0). (n, omega arith, omega (arith, ints)))
