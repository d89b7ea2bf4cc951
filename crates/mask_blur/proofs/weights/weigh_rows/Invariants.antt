use Rattle.std.proofs.Common.{◌≡◌, ℕ, ◌+◌, ◌*◌, ◌<◌, ◌≤◌, length, get_or}
use Rattle.mask_blur.proofs.weights.weigh_rows.Given as goal

abbrev pub invariant-loop-k : goal.invariant-loop-k
invariant-loop-k l =
    ((j : ℕ) → j < l.k → get_or l.sums (j + 2) 0 ≡ get_or l.above j 0 + 2 * get_or l.middle j 0 + get_or l.below j 0)
    × ((j : ℕ) → j < 2 → get_or l.sums j 0 ≡ get_or l.initial.sums j 0)
    × ((j : ℕ) → length l.middle + 2 ≤ j → get_or l.sums j 0 ≡ get_or l.initial.sums j 0)
