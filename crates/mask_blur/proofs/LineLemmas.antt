-- Sums and means along lines.
use Rattle.std.proofs.Common.{◌≡◌, ℕ, ◌+◌, ◌*◌, ◌<◌, ℤ, pos, ◌+ℤ◌, ◌-ℤ◌, List, length, get_or, replicate, ap, ◌∙◌, arith}
use Rattle.std.proofs.lemmas.Int.{ints}
use Rattle.std.proofs.lemmas.List.{get_or-replicate, length-replicate}
use Rattle.mask_blur.specs.Blur.{mean, smoothed}
use Rattle.mask_blur.specs.Lines.{IsZeroBeside}
use Rattle.ass_num.proofs.SumLemmas.{sum_from-zero}
use Rattle.mask_blur.proofs.MeanLemmas.{mean-zero}

-- means of values that are 0 beside a stretch

pub smoothed_zero : (r : ℕ) (f : ℤ → ℕ) (i : ℤ) → ((k : ℕ) → k < 2 * r + 1 → f ((i -ℤ pos r) +ℤ pos k) ≡ 0) → smoothed r f i ≡ 0
smoothed_zero r f i none = ap (mean r) (sum_from-zero f (i -ℤ pos r) (2 * r + 1) none) ∙ mean-zero r

pub smoothed_beside : (r : ℕ) (f : ℤ → ℕ) (at : ℤ) (n : ℕ) → IsZeroBeside f at n → IsZeroBeside (smoothed r f) (at -ℤ pos r) (n + 2 * r)
smoothed_beside r f at n none = record {
  before = λ i out. smoothed_zero r f i (λ k h. none.before ((i -ℤ pos r) +ℤ pos k) (omega (arith, ints)));
  behind = λ i out. smoothed_zero r f i (λ k h. none.behind ((i -ℤ pos r) +ℤ pos k) (omega (arith, ints)));
}

-- what a fill leaves
pub filled_with : (xs : List ℕ) (n v : ℕ) → xs ≡ replicate n v → (k : ℕ) → k < length xs → get_or xs k 0 ≡ v
filled_with xs n v is k within =
    let below : k < n = omega (arith, within, ap length is, length-replicate {A = ℕ} n v) in
    rw is (get_or-replicate n k v 0 below)
