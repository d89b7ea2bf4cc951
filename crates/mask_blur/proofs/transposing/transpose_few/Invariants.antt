use Rattle.std.proofs.Common.{ℕ, ◌<◌}
use Rattle.mask_blur.specs.Transposed.{IsTransposedAt}
use Rattle.mask_blur.proofs.transposing.transpose_few.Given as goal

abbrev pub invariant-loop-u : goal.invariant-loop-u
invariant-loop-u l = (p v : ℕ) → p < l.u → v < l.h → IsTransposedAt l.w l.h l.from l.to p v
