use Rattle.std.proofs.Common.{◌≤ℤ◌}
use Rattle.near_events.proofs.near.bound_of.Given as goal

abbrev pub invariant-loop-pass : goal.invariant-loop-pass
invariant-loop-pass l = l.low ≤ℤ l.t
