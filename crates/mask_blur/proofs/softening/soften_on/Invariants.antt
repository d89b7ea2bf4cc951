use Rattle.std.proofs.Common.{◌≡◌, ℕ, ◌+◌, ◌*◌, ◌<◌, ◌≤◌, ℤ, pos, ◌-ℤ◌, length, get_or}
use Rattle.mask_blur.specs.Shown.{Shows}
use Rattle.mask_blur.specs.Softening.{softened}
use Rattle.mask_blur.proofs.softening.soften_on.Given as goal

abbrev pub invariant-loop-k : goal.invariant-loop-k
invariant-loop-k l =
    (length l.now.items ≡ (l.w + 2 * l.n) * (l.h + 2 * l.n))
    × (0 < l.n → length l.next.items ≡ (l.w + 2 * l.n) * (l.h + 2 * l.n))
    × ((j : ℕ) → j < 2 → get_or l.sums j 0 ≡ 0)
    × ((j : ℕ) → (l.w + 2 * l.k) + 2 ≤ j → get_or l.sums j 0 ≡ 0)
    × ((f : ℤ → ℤ → ℕ) (x y : ℤ) → Shows f x y l.w l.h l.initial.now.items
    → Shows (softened l.k f) (x -ℤ pos l.k) (y -ℤ pos l.k) (l.w + 2 * l.k) (l.h + 2 * l.k) l.now.items)
