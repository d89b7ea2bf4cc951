use Rattle.std.proofs.Common.{◌≤◌}
use Rattle.border_region.specs.Reach.{IsDoneBelow, IsWideSide}
use Rattle.border_region.proofs.wide_sides.reach_down.Given as goal

abbrev pub invariant-loop-done : goal.invariant-loop-done
invariant-loop-done l = record {
  begun : 1 ≤ l.done;
  wide : IsWideSide (IsDoneBelow l.middle l.side l.done) l.profile l.side l.wide;
}
