-- Public: two rows of runs that are joined to one.
use Rattle.std.specs.Prelude.{◌≡◌, ℕ, ℤ, ◌≤ℤ◌, ◌<◌, true, ◌||◌, ◌&&◌, int_le, int_lt, List, All, length, take, slice_index_or}
use Rattle.ass_num.specs.Regions.{in_runs, ascend}
use Rattle.ass_num.specs.declared.region.Run.{Run}

-- all runs begin at the limit or before
abbrev pub AllBegin : ℤ → List Run → Type 0
AllBegin limit runs = All (λ r. r.from ≤ℤ limit) runs

-- one more run is joined to the others
pub record IsJoinedTo (old : List Run) (run : Run) (new : List Run) : Type 0 where
  pub covers : (i : ℤ) → in_runs new i ≡ (in_runs old i || (int_le run.from i && int_lt i run.to))
  pub ascends : ascend new ≡ true
  pub begin : (limit : ℤ) → run.from ≤ℤ limit → AllBegin limit new

-- of the runs from k on and those of another row from m on, the one at k begins first
pub record BeginsFirst (a : List Run) (k : ℕ) (b : List Run) (m : ℕ) : Type 0 where
  pub within : k < length a
  pub before : (d : Run) → m < length b → (slice_index_or a k d).from ≤ℤ (slice_index_or b m d).from

-- the runs hold the samples of the first k runs of one row and the first m of another, and the others begin no earlier
pub record AreRunsJoined (a : List Run) (k : ℕ) (b : List Run) (m : ℕ) (runs : List Run) : Type 0 where
  pub covers : (i : ℤ) → in_runs runs i ≡ (in_runs (take k a) i || in_runs (take m b) i)
  pub ascends : ascend runs ≡ true
  pub left : (d : Run) → k < length a → AllBegin (slice_index_or a k d).from runs
  pub right : (d : Run) → m < length b → AllBegin (slice_index_or b m d).from runs
