use Rattle.std.proofs.Common.{ℕ, ◌+◌, ◌<◌, ◌≤ℤ◌, slice_index_or}
use Rattle.event_places.specs.declared.stands.Stand.{Stand}
use Rattle.plan_vectors.proofs.shifts.in_order.Given as goal

abbrev pub invariant-loop-k : goal.invariant-loop-k
invariant-loop-k l = (j : ℕ) (s : Stand) → j + 1 < l.k → (slice_index_or l.list j s).start ≤ℤ (slice_index_or l.list (j + 1) s).start
