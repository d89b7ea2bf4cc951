-- Public: regions, sets of samples by rows of runs, and the one form that each set has.
use Rattle.std.specs.Prelude.{ℤ, pos, negsuc, ◌-ℤ◌, Bool, true, false, ◌&&◌, ◌||◌, int_lt, int_le, List, [], ◌∷◌, slice_index_or}
use Rattle.std.specs.Ordering.{int_eq}
use Rattle.ass_num.specs.declared.region.Run.{Run}

-- A region as contracts see it: the rows from `top` down, each a list of runs.
pub record RegionValue : Type 0 where
  pub top : ℤ
  pub rows : List (List Run)

-- sample i of a row lies in one of the runs
abbrev pub in_runs : List Run → ℤ → Bool
in_runs [] i = false
in_runs (r ∷ rs) i = (int_le r.from i && int_lt i r.to) || in_runs rs i

-- the row that lies so far below the first
abbrev pub row_at : List (List Run) → ℤ → List Run
row_at rows (pos n) = slice_index_or rows n []
row_at rows (negsuc n) = []

-- sample i of row j belongs to the rows from `top` down
abbrev pub member : ℤ → List (List Run) → ℤ → ℤ → Bool
member top rows i j = in_runs (row_at rows (j -ℤ top)) i

-- the runs begin after `low`, ascend, and don't touch
abbrev pub ascend_from : ℤ → List Run → Bool
ascend_from low [] = true
ascend_from low (r ∷ rs) = int_lt low r.from && int_lt r.from r.to && ascend_from r.to rs

-- no run is empty, and runs ascend and don't touch
abbrev pub ascend : List Run → Bool
ascend [] = true
ascend (r ∷ rs) = int_lt r.from r.to && ascend_from r.to rs

abbrev pub all_ascend : List (List Run) → Bool
all_ascend [] = true
all_ascend (r ∷ rows) = ascend r && all_ascend rows

abbrev pub has_run : List Run → Bool
has_run [] = false
has_run (r ∷ rs) = true

abbrev pub first_has_run : List (List Run) → Bool
first_has_run [] = true
first_has_run (r ∷ rows) = has_run r

-- the last row has a run, where `r` comes before the rows
abbrev pub last_has_run_after : List Run → List (List Run) → Bool
last_has_run_after r [] = has_run r
last_has_run_after r (s ∷ rows) = last_has_run_after s rows

abbrev pub last_has_run : List (List Run) → Bool
last_has_run [] = true
last_has_run (r ∷ rows) = last_has_run_after r rows

abbrev pub top_fits : ℤ → List (List Run) → Bool
top_fits top [] = int_eq top (pos 0)
top_fits top (r ∷ rows) = true

-- the one form of a set of samples
abbrev pub is_canonical : ℤ → List (List Run) → Bool
is_canonical top rows = all_ascend rows && (first_has_run rows && (last_has_run rows && top_fits top rows))
