use Rattle.std.proofs.Common.{◌≡◌, ℕ, ◌+◌, ◌*◌, ◌/◌, ◌<◌, ◌≤◌, get_or}
use Rattle.mask_blur.proofs.columns.slide.Given as goal

abbrev pub invariant-loop-k : goal.invariant-loop-k
invariant-loop-k l =
    ((j : ℕ) → j < l.k → get_or l.sums j 0 + get_or l.leaving j 0 ≡ get_or l.initial.sums j 0 + get_or l.entering j 0)
    × ((j : ℕ) → l.k ≤ j → get_or l.sums j 0 ≡ get_or l.initial.sums j 0)
    × ((j : ℕ) → j < l.k → get_or l.to j 0 ≡ get_or l.sums j 0 / (2 * l.means.radius + 1))
