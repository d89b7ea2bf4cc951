use Rattle.std.proofs.Common.{◌≡◌, ℕ, ◌+◌, ◌*◌, ◌<◌, ◌≤◌, ◌⊎◌, length, get_or}
use Rattle.mask_blur.proofs.strips.frame.Given as goal

abbrev pub invariant-loop-k : goal.invariant-loop-k
invariant-loop-k l = (length l.to ≡ length l.initial.to)
    × ((g : ℕ → ℕ → ℕ) → ((a b : ℕ) → a < l.h → b < l.w → get_or l.bytes (a * l.w + b) 0 ≡ g (l.n + a) (l.n + b))
    → (u v : ℕ) → v < l.w + 2 * l.n → ((l.n ≤ u) × (u < l.n + l.k) × (l.n ≤ v) × (v < l.n + l.w)) ⊎ (get_or l.initial.to (u * (l.w + 2 * l.n) + v) 0 ≡ g u v)
    → get_or l.to (u * (l.w + 2 * l.n) + v) 0 ≡ g u v)
