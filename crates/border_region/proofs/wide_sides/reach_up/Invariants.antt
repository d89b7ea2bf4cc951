use Rattle.std.proofs.Common.{◌≤◌}
use Rattle.border_region.specs.Reach.{IsDoneAbove, IsWideSide}
use Rattle.border_region.proofs.wide_sides.reach_up.Given as goal

abbrev pub invariant-loop-k : goal.invariant-loop-k
invariant-loop-k l = record {
  begun : 1 ≤ l.k;
  wide : IsWideSide (IsDoneAbove l.middle l.side l.k) l.profile l.side l.wide;
}
