-- Inner: a walk over the rows of widened strips.
use Rattle.std.specs.Prelude.{◌≡◌, ℕ, ◌<◌, ◌≤◌, ℤ, ◌≤ℤ◌, ◌<ℤ◌, true, List, length, slice_index_or, All, Contains}
use Rattle.ass_num.specs.Regions.{in_runs, ascend}
use Rattle.ass_num.specs.declared.region.Run.{Run}
use Rattle.border_region.specs.Held.{HasRow, IsInStrips, row_run, strip_span}
use Rattle.border_region.specs.declared.wide_strips.Span.{Span}

-- Those that are live are strips, and each of the first `begun` that ends below row j is live.
pub record AreLive (j : ℤ) (spans : List Span) (begun : ℕ) (live : List Span) : Type 0 where
  pub are : All (Contains spans) live
  pub kept : (s : ℕ) → s < begun → s < length spans → j <ℤ (strip_span spans s).end → Contains live (strip_span spans s)

-- the strips from `begun` on begin below row j
abbrev pub BeginAfter : ℤ → List Span → ℕ → Type 0
BeginAfter j spans begun = (s : ℕ) → begun ≤ s → s < length spans → j <ℤ (strip_span spans s).first

-- the run is the one that a strip has in row j
abbrev pub IsRowRun : List Span → List (List Run) → ℤ → Run → Type 0
IsRowRun spans strips j run = (s : ℕ) × (m : ℕ) × HasRow spans strips j s m × (row_run strips s m ≡ run)

-- the runs have gained the one that the strip has in row j, if it has one
pub record AddsRowRun (spans : List Span) (strips : List (List Run)) (j : ℤ) (span : Span) (old new : List Run) : Type 0 where
  pub keeps : (run : Run) → Contains old run → Contains new run
  pub gains : (s m : ℕ) → strip_span spans s ≡ span → HasRow spans strips j s m → Contains new (row_run strips s m)
  pub are : All (IsRowRun spans strips j) old → All (IsRowRun spans strips j) new

-- just the runs that the live strips have in row j
pub record AreRowRuns (spans : List Span) (strips : List (List Run)) (j : ℤ) (live : List Span) (found : List Run) : Type 0 where
  pub are : All (IsRowRun spans strips j) found
  pub all : (s m : ℕ) → Contains live (strip_span spans s) → HasRow spans strips j s m → Contains found (row_run strips s m)

-- later runs begin no earlier
abbrev pub IsRising : List Run → Type 0
IsRising runs = (m n : ℕ) (d : Run) → m ≤ n → n < length runs → (slice_index_or runs m d).from ≤ℤ (slice_index_or runs n d).from

abbrev pub IsFullRun : Run → Type 0
IsFullRun run = run.from <ℤ run.to

-- the runs hold just the samples of row j that are held
pub record IsRowHeld (spans : List Span) (strips : List (List Run)) (j : ℤ) (runs : List Run) : Type 0 where
  pub held : (i : ℤ) → IsInStrips spans strips i j → in_runs runs i ≡ true
  pub are : (i : ℤ) → in_runs runs i ≡ true → IsInStrips spans strips i j
  pub ascends : ascend runs ≡ true
