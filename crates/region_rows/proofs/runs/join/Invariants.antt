use Rattle.std.proofs.Common.{◌+◌, ◌-◌, ◌≤◌, length}
use Rattle.region_rows.specs.Joins.{AreRunsJoined}
use Rattle.region_rows.proofs.runs.join.Given as goal

abbrev pub invariant-loop-k : goal.invariant-loop-k
invariant-loop-k l = record {
  left : l.k ≤ length l.a;
  right : l.m ≤ length l.b;
  joined : AreRunsJoined l.a l.k l.b l.m l.runs.items;
}

abbrev pub decreases-loop-k : goal.decreases-loop-k
decreases-loop-k l = (length l.a - l.k) + (length l.b - l.m)
