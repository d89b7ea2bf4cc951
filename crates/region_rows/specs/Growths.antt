-- Public: the rows of a region while it grows.
use Rattle.std.specs.Prelude.{◌≡◌, ℕ, ℤ, pos, ◌+ℤ◌, ◌<ℤ◌, ◌≤◌, Bool, true, List, [], length, take, slice_index_or}
use Rattle.ass_num.specs.Regions.{in_runs, ascend, member, all_ascend, first_has_run, last_has_run}
use Rattle.ass_num.specs.declared.region.Run.{Run}

-- the runs hold the wanted samples of a row
pub record IsRowHolding (wanted : ℤ → Bool) (runs : List Run) : Type 0 where
  pub covers : (i : ℤ) → in_runs runs i ≡ wanted i
  pub ascends : ascend runs ≡ true

-- the first `filled` rows are those of a region
pub record IsFormed (rows : List (List Run)) (filled : ℕ) : Type 0 where
  pub ascends : all_ascend rows ≡ true
  pub begins : first_has_run rows ≡ true
  pub within : filled ≤ length rows
  pub fills : last_has_run (take filled rows) ≡ true

-- The rows from `top` down hold the wanted samples before row j; from `filled` on they are empty.
pub record HasRunRows (wanted : ℤ → ℤ → Bool) (j top : ℤ) (rows : List (List Run)) (filled : ℕ) : Type 0 where
  pub ends : (pos (length rows) +ℤ top) ≡ j
  pub members : (i k : ℤ) → k <ℤ j → member top rows i k ≡ wanted i k
  pub formed : IsFormed rows filled
  pub rest : (k : ℕ) → filled ≤ k → slice_index_or rows k [] ≡ []
