use Rattle.std.proofs.Common.{ℕ, ◌+◌, ◌*◌, ◌<◌, ◌≤◌, ◌⊎◌}
use Rattle.mask_blur.specs.Transposed.{IsTransposedAt}
use Rattle.mask_blur.proofs.transposing.transpose_rows.Given as goal

abbrev pub invariant-loop-k : goal.invariant-loop-k
invariant-loop-k l = (u v : ℕ) → v < l.h → ((u < 16 * l.k) × (l.j ≤ v) × (v < l.j + 16)) ⊎ IsTransposedAt l.w l.h l.from l.initial.to u v
    → IsTransposedAt l.w l.h l.from l.to u v
