use Rattle.std.proofs.Common.{◌≡◌, ℕ, ◌+◌, ◌<◌, length, get_or}
use Rattle.mask_blur.proofs.rows.part_at.Given as goal

abbrev pub invariant-loop-i : goal.invariant-loop-i
invariant-loop-i l = (length l.part ≡ 16) × ((j : ℕ) → j < l.i → get_or l.part j 0 ≡ get_or l.bytes (l.start + j) 0)
