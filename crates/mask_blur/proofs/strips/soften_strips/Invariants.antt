use Rattle.std.proofs.Common.{ℕ, ◌+◌, ◌*◌, ◌<◌, ◌≤◌, ◌⊎◌, ℤ}
use Rattle.mask_blur.specs.Shown.{Shows, IsCellAt}
use Rattle.mask_blur.specs.Softening.{softer}
use Rattle.mask_blur.proofs.strips.soften_strips.Given as goal

abbrev pub invariant-loop-q : goal.invariant-loop-q
invariant-loop-q l = (f : ℤ → ℤ → ℕ) (x y : ℤ) → Shows f x y l.w l.h l.from → (j i : ℕ) → i < l.w → j < l.h
    → (i < l.m + 16 * l.q) ⊎ (l.w ≤ i + l.m) ⊎ (j < l.m) ⊎ (l.h ≤ j + l.m + 2) → IsCellAt (softer f) x y l.w l.to i j
