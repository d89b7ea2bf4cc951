use Rattle.std.proofs.Common.{◌≡◌, ℕ, ◌+◌, ◌*◌, ◌<◌, length, get_or}
use Rattle.blend.specs.Blocks.{channel}
use Rattle.blend.proofs.span.solid.Given as goal

abbrev pub invariant-loop-i : goal.invariant-loop-i
invariant-loop-i l = (length l.pixels ≡ 48)
    × ((k c : ℕ) → k < l.i → c < 3 → get_or l.pixels (3 * k + c) 0 ≡ channel l.colour c)
