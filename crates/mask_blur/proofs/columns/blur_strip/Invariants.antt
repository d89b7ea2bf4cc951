use Rattle.std.proofs.Common.{◌≡◌, ℕ, ◌+◌, ◌*◌, ◌<◌, ◌≤◌, ◌⊎◌, ℤ, pos, ◌+ℤ◌, ◌-ℤ◌, length, get_or}
use Rattle.ass_num.specs.Coverage.{sum_from}
use Rattle.mask_blur.specs.Blur.{along_columns}
use Rattle.mask_blur.specs.Shown.{Shows, IsCellAt}
use Rattle.mask_blur.proofs.columns.blur_strip.Given as goal

abbrev pub invariant-loop-k : goal.invariant-loop-k
invariant-loop-k l = (length l.sums ≡ 16) × ((f : ℤ → ℤ → ℕ) (x y : ℤ) → Shows f x y l.w l.h l.from
    → ((b : ℕ) → b < 16 → get_or l.sums b 0 ≡ sum_from (f (x +ℤ pos (l.at + b))) ((y +ℤ pos l.k) -ℤ pos (2 * l.means.radius + 1)) (2 * l.means.radius + 1) + l.means.radius)
    × ((j i : ℕ) → i < l.w → ((j < l.k) × (l.at ≤ i) × (i < l.at + 16)) ⊎ IsCellAt (along_columns l.means.radius f) x (y -ℤ pos l.means.radius) l.w l.initial.to i j
    → IsCellAt (along_columns l.means.radius f) x (y -ℤ pos l.means.radius) l.w l.to i j))
