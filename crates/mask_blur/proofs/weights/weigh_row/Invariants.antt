use Rattle.std.proofs.Common.{◌≡◌, ℕ, ◌+◌, ◌*◌, ◌/◌, ◌<◌, get_or}
use Rattle.mask_blur.proofs.weights.weigh_row.Given as goal

abbrev pub invariant-loop-k : goal.invariant-loop-k
invariant-loop-k l = (j : ℕ) → j < l.k → get_or l.row j 0 ≡ (get_or l.sums j 0 + 2 * get_or l.sums (j + 1) 0 + get_or l.sums (j + 2) 0 + 8) / 16
