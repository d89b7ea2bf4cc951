use Rattle.std.proofs.Common.{◌≡◌, ℕ, ◌+◌, ◌<◌, ◌≤◌, ℤ, pos, ◌-ℤ◌, length, get_or}
use Rattle.mask_blur.specs.Shown.{Shows, HasMaskRows}
use Rattle.mask_blur.specs.Softening.{softer}
use Rattle.mask_blur.proofs.softening.soften_once.Given as goal

abbrev pub invariant-loop-k : goal.invariant-loop-k
invariant-loop-k l =
    ((j : ℕ) → j < 2 → get_or l.sums j 0 ≡ 0)
    × ((j : ℕ) → length l.zeros + 2 ≤ j → get_or l.sums j 0 ≡ 0)
    × ((f : ℤ → ℤ → ℕ) (x y : ℤ) → Shows f x y (length l.zeros) l.h l.from → HasMaskRows (softer f) (x -ℤ pos 1) (y -ℤ pos 1) (length l.zeros + 2) l.k l.to)
