use Rattle.std.proofs.Common.{◌≤◌, length}
use Rattle.frame_change.specs.Rows.{AreSame}
use Rattle.still_images.proofs.alpha_box.last_change.Given as goal

abbrev pub invariant-loop-end : goal.invariant-loop-end
invariant-loop-end l = record {
  within : l.end ≤ length l.a;
  same : AreSame l.a l.b l.end (length l.a);
}

abbrev pub decreases-loop-end : goal.decreases-loop-end
decreases-loop-end l = l.end
