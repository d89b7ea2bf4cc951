-- Running sums of columns.
use Rattle.std.proofs.Common.{◌≡◌, ℕ, ◌+◌, ◌*◌, ◌<◌, ◌≤◌, ℤ, pos, ◌+ℤ◌, ◌-ℤ◌, get_or, ap, arith}
use Rattle.std.proofs.lemmas.Int.{ints}
use Rattle.ass_num.specs.Coverage.{sum_from}
use Rattle.ass_num.specs.Masks.{MaskValue, value_at}
use Rattle.mask_blur.specs.Blur.{mean, smoothed}
use Rattle.mask_blur.specs.Lines.{IsZeroBeside}
use Rattle.ass_num.proofs.MaskLemmas.{value_most}
use Rattle.ass_num.proofs.SumLemmas.{sum_from-next, sum_from-zero, sum_from-bound}

-- the window over the rows before the first one
pub sums_none : (g : ℤ → ℕ) (y : ℤ) (h width : ℕ) → IsZeroBeside g y h → sum_from g ((y +ℤ pos 0) -ℤ pos width) width ≡ 0
sums_none g y h width none = sum_from-zero g ((y +ℤ pos 0) -ℤ pos width) width (λ k below. none.before (((y +ℤ pos 0) -ℤ pos width) +ℤ pos k) (omega (arith, ints)))

-- the window moved down by a row
pub sums_next : (g : ℤ → ℕ) (y : ℤ) (k width : ℕ)
    → sum_from g ((y +ℤ pos (k + 1)) -ℤ pos width) width + g ((y +ℤ pos k) -ℤ pos width) ≡ sum_from g ((y +ℤ pos k) -ℤ pos width) width + g ((y +ℤ pos k) -ℤ pos 0)
sums_next g y k width =
    let next : ((y +ℤ pos k) -ℤ pos width) +ℤ pos 1 ≡ (y +ℤ pos (k + 1)) -ℤ pos width = omega (arith, ints) in
    let enters : ((y +ℤ pos k) -ℤ pos width) +ℤ pos width ≡ (y +ℤ pos k) -ℤ pos 0 = omega (arith, ints) in
    omega (arith, sum_from-next g ((y +ℤ pos k) -ℤ pos width) width, ap (λ z. sum_from g z width) next, ap g enters)

pub column_step : (g : ℤ → ℕ) (y : ℤ) (k width more sum enters leaves : ℕ) → sum ≡ sum_from g ((y +ℤ pos k) -ℤ pos width) width + more
    → enters ≡ g ((y +ℤ pos k) -ℤ pos 0) → leaves ≡ g ((y +ℤ pos k) -ℤ pos width)
    → sum_from g ((y +ℤ pos (k + 1)) -ℤ pos width) width + more + leaves ≡ sum + enters
column_step g y k width more sum enters leaves is e l = omega (arith, sums_next g y k width)

-- a running sum of bytes with the radius in it is small, before and after a step
pub column_bounds : (m : MaskValue) (i k r sum enters leaves : ℕ) → ((j : ℕ) → get_or m.bytes j 0 < 256)
    → sum ≡ sum_from (value_at m (pos 0 +ℤ pos i)) ((pos 0 +ℤ pos k) -ℤ pos (2 * r + 1)) (2 * r + 1) + r
    → enters ≡ value_at m (pos 0 +ℤ pos i) ((pos 0 +ℤ pos k) -ℤ pos 0) → leaves ≡ value_at m (pos 0 +ℤ pos i) ((pos 0 +ℤ pos k) -ℤ pos (2 * r + 1))
    → (leaves ≤ sum + enters) × (sum + enters < 256 * (2 * r + 1) + leaves)
column_bounds m i k r sum enters leaves bytes is e l =
    let g = value_at m (pos 0 +ℤ pos i) in
    let width = 2 * r + 1 in
    let step = column_step g (pos 0) k width r sum enters leaves is e l in
    let small = sum_from-bound g ((pos 0 +ℤ pos (k + 1)) -ℤ pos width) width 255 (λ j h. value_most m (pos 0 +ℤ pos i) (((pos 0 +ℤ pos (k + 1)) -ℤ pos width) +ℤ pos j) 255 (λ n. let byte = bytes n in omega (arith, byte))) in
    (omega (arith, step), omega (arith, step, small))

-- the mean of the window that ends with row k
pub column_mean : (r : ℕ) (g : ℤ → ℕ) (y : ℤ) (k : ℕ) → mean r (sum_from g ((y +ℤ pos (k + 1)) -ℤ pos (2 * r + 1)) (2 * r + 1)) ≡ smoothed r g ((y -ℤ pos r) +ℤ pos k)
column_mean r g y k =
    let place : (y +ℤ pos (k + 1)) -ℤ pos (2 * r + 1) ≡ ((y -ℤ pos r) +ℤ pos k) -ℤ pos r = omega (arith, ints) in
    ap (λ z. mean r (sum_from g z (2 * r + 1))) place
