use Rattle.std.proofs.Common.{ℤ, pos, ◌*◌, ◌-ℤ◌, ◌≤ℤ◌}
use Rattle.std.specs.Int.RustNames.{unsigned_abs}
use Rattle.event_places.specs.Placement.{IsClear, IsShift, max_box}
use Rattle.event_places.proofs.shift.least_shift.Given as goal

abbrev pub invariant-loop-shift : goal.invariant-loop-shift
invariant-loop-shift l = record {
  shift : IsShift (2 * max_box) l.shift;
  least : (t : ℤ) → pos 0 ≤ℤ t → IsClear l.b l.others l.down t → l.shift ≤ℤ t;
}

abbrev pub decreases-loop-shift : goal.decreases-loop-shift
decreases-loop-shift l = unsigned_abs (pos (2 * max_box) -ℤ l.shift)
