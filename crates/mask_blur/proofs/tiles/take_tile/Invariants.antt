use Rattle.std.proofs.Common.{◌≡◌, ℕ, ◌+◌, ◌*◌, ◌/◌, ◌%◌, ◌<◌, length, get_or}
use Rattle.mask_blur.proofs.tiles.take_tile.Given as goal

abbrev pub invariant-loop-i : goal.invariant-loop-i
invariant-loop-i l = (length l.tile ≡ 256) × ((k : ℕ) → k < 16 * l.i → get_or l.tile k 0 ≡ get_or l.from (l.start + k / 16 * l.w + k % 16) 0)
