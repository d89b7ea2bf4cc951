use Rattle.std.proofs.Common.{◌≡◌, ℕ, ◌+◌, ◌*◌, ◌<◌, ℤ, pos, ◌+ℤ◌, ◌-ℤ◌, length, get_or}
use Rattle.ass_num.specs.Coverage.{sum_from}
use Rattle.mask_blur.specs.Blur.{along_columns}
use Rattle.mask_blur.specs.Shown.{Shows, HasMaskRows}
use Rattle.mask_blur.proofs.columns.blur_few.Given as goal

abbrev pub invariant-loop-k : goal.invariant-loop-k
invariant-loop-k l = (f : ℤ → ℤ → ℕ) (x y : ℤ) → Shows f x y (length l.zeros) l.h l.from
    → ((i : ℕ) → i < length l.zeros → get_or l.sums i 0 ≡ sum_from (f (x +ℤ pos i)) ((y +ℤ pos l.k) -ℤ pos (2 * l.means.radius + 1)) (2 * l.means.radius + 1) + l.means.radius)
    × HasMaskRows (along_columns l.means.radius f) x (y -ℤ pos l.means.radius) (length l.zeros) l.k l.to
