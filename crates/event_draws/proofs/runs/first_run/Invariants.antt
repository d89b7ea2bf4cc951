use Rattle.std.proofs.Common.{◌≡◌, ℕ, ◌+◌, ◌-◌, ◌<◌, ◌≤◌, true, length, get_or}
use Rattle.text_layout.specs.declared.laid.Placed.{Placed}
use Rattle.event_draws.specs.Runs.{are_joined}
use Rattle.event_draws.proofs.runs.first_run.Given as goal

abbrev pub invariant-loop-count : goal.invariant-loop-count
invariant-loop-count l = record {
  least : 0 < l.count;
  most : l.count ≤ length l.items;
  joined : (k : ℕ) (d : Placed) → k + 1 < l.count → are_joined l.view (get_or l.items k d) (get_or l.items (k + 1) d) ≡ true;
}

abbrev pub decreases-loop-count : goal.decreases-loop-count
decreases-loop-count l = length l.items - l.count
