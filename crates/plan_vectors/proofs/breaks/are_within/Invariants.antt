use Rattle.std.proofs.Common.{ℕ, ◌<◌, slice_index}
use Rattle.plan_vectors.proofs.breaks.are_within.Given as goal

abbrev pub invariant-loop-place : goal.invariant-loop-place
invariant-loop-place l = (k : ℕ) → k < l.place-index → slice_index l.spaces k < l.count
