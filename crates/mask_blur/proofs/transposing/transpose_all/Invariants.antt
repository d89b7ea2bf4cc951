use Rattle.std.proofs.Common.{ℕ, ◌*◌, ◌<◌}
use Rattle.mask_blur.specs.Transposed.{IsTransposedAt}
use Rattle.mask_blur.proofs.transposing.transpose_all.Given as goal

abbrev pub invariant-loop-k : goal.invariant-loop-k
invariant-loop-k l = (u v : ℕ) → u < l.w → v < 16 * l.k → IsTransposedAt l.w l.h l.from l.to u v
