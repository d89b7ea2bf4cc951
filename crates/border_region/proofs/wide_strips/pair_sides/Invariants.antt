use Rattle.std.proofs.Common.{◌≡◌, ℕ, ◌<◌, length, neg_ℤ}
use Rattle.border_region.specs.Keys.{key_at}
use Rattle.border_region.specs.Strips.{run_in}
use Rattle.border_region.proofs.wide_strips.pair_sides.Given as goal

abbrev pub invariant-loop-m : goal.invariant-loop-m
invariant-loop-m l = (length l.runs.items ≡ l.m)
    × ((m : ℕ) → m < l.m → (run_in l.runs.items m).from ≡ key_at l.lefts m)
    × ((m : ℕ) → m < l.m → (run_in l.runs.items m).to ≡ neg_ℤ (key_at l.rights m))
