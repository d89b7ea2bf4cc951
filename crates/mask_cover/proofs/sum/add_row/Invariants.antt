use Rattle.std.proofs.Common.{◌≡◌, ℕ, ◌+◌, ◌<◌, ◌≤◌, min, get_or}
use Rattle.mask_cover.proofs.sum.add_row.Given as goal

abbrev pub invariant-loop-i : goal.invariant-loop-i
invariant-loop-i l = record {
  inside : (k : ℕ) → k < l.i → get_or l.sums (l.from + k) 0 ≡ min 255 (get_or l.initial.sums (l.from + k) 0 + get_or l.bytes k 0);
  before : (k : ℕ) → k < l.from → get_or l.sums k 0 ≡ get_or l.initial.sums k 0;
  behind : (k : ℕ) → l.from + l.i ≤ k → get_or l.sums k 0 ≡ get_or l.initial.sums k 0;
}
