use Rattle.std.proofs.Common.{ℕ, ℤ, ◌<◌, slice_index_or}
use Rattle.line_layout.specs.Breaks.{IsItemWidth}
use Rattle.plan_vectors.proofs.breaks.are_narrow.Given as goal

abbrev pub invariant-loop-width : goal.invariant-loop-width
invariant-loop-width l = (k : ℕ) (d : ℤ) → k < l.width-index → IsItemWidth (slice_index_or l.widths k d)
