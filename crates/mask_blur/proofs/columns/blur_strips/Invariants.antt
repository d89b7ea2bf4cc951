use Rattle.std.proofs.Common.{ℕ, ◌+◌, ◌*◌, ◌<◌, ℤ, pos, ◌-ℤ◌}
use Rattle.mask_blur.specs.Blur.{along_columns}
use Rattle.mask_blur.specs.Shown.{Shows, IsCellAt}
use Rattle.mask_blur.proofs.columns.blur_strips.Given as goal

abbrev pub invariant-loop-q : goal.invariant-loop-q
invariant-loop-q l = (f : ℤ → ℤ → ℕ) (x y : ℤ) → Shows f x y l.w l.h l.from → (j i : ℕ) → j < l.h + 2 * l.means.radius → i < l.w → i < 16 * l.q
    → IsCellAt (along_columns l.means.radius f) x (y -ℤ pos l.means.radius) l.w l.to i j
