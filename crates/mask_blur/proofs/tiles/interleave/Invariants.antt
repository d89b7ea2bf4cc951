use Rattle.std.proofs.Common.{◌≡◌, ℕ, ◌+◌, ◌*◌, ◌/◌, ◌%◌, ◌<◌, length, get_or}
use Rattle.mask_blur.proofs.tiles.interleave.Given as goal

abbrev pub invariant-loop-k : goal.invariant-loop-k
invariant-loop-k l = (length l.to ≡ 256) × ((j : ℕ) → j < 2 * l.k → get_or l.to j 0 ≡ get_or l.from (j / 2 + 128 * (j % 2)) 0)
