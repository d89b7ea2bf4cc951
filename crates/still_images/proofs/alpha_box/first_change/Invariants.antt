use Rattle.std.proofs.Common.{◌-◌, ◌≤◌, length}
use Rattle.frame_change.specs.Rows.{AreSame}
use Rattle.still_images.proofs.alpha_box.first_change.Given as goal

abbrev pub invariant-loop-i : goal.invariant-loop-i
invariant-loop-i l = record {
  within : l.i ≤ length l.a;
  same : AreSame l.a l.b 0 l.i;
}

abbrev pub decreases-loop-i : goal.decreases-loop-i
decreases-loop-i l = length l.a - l.i
