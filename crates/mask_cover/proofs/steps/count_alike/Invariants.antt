use Rattle.std.proofs.Common.{◌≡◌, ℕ, ◌+◌, ◌<◌, ◌≤◌, [], get_or}
use Rattle.mask_cover.proofs.steps.count_alike.Given as goal

abbrev pub invariant-loop-n : goal.invariant-loop-n
invariant-loop-n l = record {
  low : 1 ≤ l.n;
  high : l.n ≤ l.end;
  alike : (m : ℕ) → m < l.n → get_or l.rows (l.k + m) [] ≡ get_or l.rows l.k [];
}
