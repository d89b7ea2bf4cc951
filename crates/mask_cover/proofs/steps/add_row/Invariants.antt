use Rattle.std.proofs.Common.{◌≡◌, ℕ, ◌+◌, ◌*◌, pos, ◌+ℤ◌, ◌≤ℤ◌, drop}
use Rattle.mask_cover.specs.Steps.{sum_first, row_count}
use Rattle.mask_cover.proofs.steps.add_row.Given as goal

abbrev pub invariant-loop-run : goal.invariant-loop-run
invariant-loop-run l =
    ((c : ℕ) → sum_first l.steps (c + 1) +ℤ pos (l.times * row_count (drop l.run-index l.runs) l.fn.left c) ≡ sum_first l.initial.steps (c + 1) +ℤ pos (l.times * row_count l.runs l.fn.left c))
    × ((c : ℕ) → sum_first l.initial.steps (c + 1) ≤ℤ sum_first l.steps (c + 1))
