-- Inner: the columns that rows of runs span, and the pixels of samples.
use Rattle.std.specs.Prelude.{◌≡◌, ℕ, ℤ, pos, ◌<◌, ◌+ℤ◌, ◌-ℤ◌, ◌*ℤ◌, ◌<ℤ◌, ◌≤ℤ◌, true, List, [], slice_index_or}
use Rattle.ass_num.specs.Regions.{in_runs}
use Rattle.ass_num.specs.declared.region.Run.{Run}

-- The run has all samples of the row, and its ends are samples of it.
pub record IsSpan (runs : List Run) (r : Run) : Type 0 where
  pub inside : (i : ℤ) → in_runs runs i ≡ true → (r.from ≤ℤ i) × (i <ℤ r.to)
  pub first : in_runs runs r.from ≡ true
  pub last : in_runs runs (r.to -ℤ pos 1) ≡ true

-- The run has all samples of the first n rows, and its ends are samples of some of them.
pub record IsSpanOfRows (rows : List (List Run)) (n : ℕ) (r : Run) : Type 0 where
  pub inside : (k : ℕ) (i : ℤ) → k < n → in_runs (slice_index_or rows k []) i ≡ true → (r.from ≤ℤ i) × (i <ℤ r.to)
  pub first : (k : ℕ) × (k < n) × (in_runs (slice_index_or rows k []) r.from ≡ true)
  pub last : (k : ℕ) × (k < n) × (in_runs (slice_index_or rows k []) (r.to -ℤ pos 1) ≡ true)

-- Sample i falls in pixel x along an axis: x is floor((i + phase) / 16).
pub record Falls (phase : ℕ) (i x : ℤ) : Type 0 where
  pub low : (x *ℤ pos 16) ≤ℤ (i +ℤ pos phase)
  pub high : (i +ℤ pos phase) <ℤ ((x *ℤ pos 16) +ℤ pos 16)
