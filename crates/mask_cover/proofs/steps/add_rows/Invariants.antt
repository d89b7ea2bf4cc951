use Rattle.std.proofs.Common.{◌≡◌, ℕ, ◌+◌, ◌-◌, ◌≤◌, pos}
use Rattle.mask_cover.specs.Steps.{sum_first, cell_count}
use Rattle.mask_cover.proofs.steps.add_rows.Given as goal

abbrev pub invariant-loop-b : goal.invariant-loop-b
invariant-loop-b l = record {
  within : l.b ≤ 16;
  counts : (c : ℕ) → sum_first l.steps (c + 1) ≡ pos (cell_count l.rows l.fn.left l.above l.row c l.b);
}

abbrev pub decreases-loop-b : goal.decreases-loop-b
decreases-loop-b l = 16 - l.b
