use Rattle.std.proofs.Common.{◌≡◌, ℕ, ◌+◌, ◌*◌, ◌<◌, ◌≤◌, ◌⊎◌, get_or}
use Rattle.mask_blur.proofs.tiles.put_tile.Given as goal

abbrev pub invariant-loop-a : goal.invariant-loop-a
invariant-loop-a l = (f : ℕ → ℕ → ℕ) → ((a b : ℕ) → a < 16 → b < 16 → get_or l.tile (16 * a + b) 0 ≡ f (l.i + a) (l.j + b))
    → (u v : ℕ) → v < l.h → ((l.i ≤ u) × (u < l.i + l.a) × (l.j ≤ v) × (v < l.j + 16)) ⊎ (get_or l.initial.to (u * l.h + v) 0 ≡ f u v)
    → get_or l.to (u * l.h + v) 0 ≡ f u v
