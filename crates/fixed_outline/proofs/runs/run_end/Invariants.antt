use Rattle.std.proofs.Common.{◌≡◌, ℕ, ◌-◌, ◌<◌, ◌≤◌, true}
use Rattle.ass_num.specs.Bitmaps.{pixel_is_set}
use Rattle.fixed_outline.proofs.runs.run_end.Given as goal

abbrev pub invariant-loop-i : goal.invariant-loop-i
invariant-loop-i l = record {
  ordered : l.from ≤ l.i;
  within : l.i ≤ l.pixels.w;
  set : (k : ℕ) → l.from ≤ k → k < l.i → pixel_is_set l.pixels.w l.pixels.bits k l.j ≡ true;
}

abbrev pub decreases-loop-i : goal.decreases-loop-i
decreases-loop-i l = l.pixels.w - l.i
