use Rattle.std.proofs.Common.{◌≡◌, ℕ, ◌+◌, ◌*◌, ◌/◌, ◌<◌, ◌≤◌, get_or}
use Rattle.mask_blur.proofs.strips.soften_part.Given as goal

abbrev pub invariant-loop-k : goal.invariant-loop-k
invariant-loop-k l =
    ((j : ℕ) → j < l.k → get_or l.last j 0 ≡ get_or l.left j 0 + 2 * get_or l.middle j 0 + get_or l.right j 0)
    × ((j : ℕ) → l.k ≤ j → get_or l.last j 0 ≡ get_or l.initial.last j 0)
    × ((j : ℕ) → j < l.k → get_or l.both j 0 ≡ get_or l.initial.last j 0 + get_or l.last j 0 + 8)
    × ((j : ℕ) → l.k ≤ j → get_or l.both j 0 ≡ get_or l.initial.both j 0)
    × ((j : ℕ) → j < l.k → get_or l.to j 0 ≡ (get_or l.initial.both j 0 + (get_or l.initial.last j 0 + get_or l.last j 0)) / 16)
