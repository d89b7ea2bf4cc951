-- Inner: a row whose samples reach so far to both sides.
use Rattle.std.specs.Prelude.{◌≡◌, ℕ, ℤ, ◌-ℤ◌, ◌≤ℤ◌, ◌<ℤ◌, ◌⊎◌, true, List}
use Rattle.ass_num.specs.Limits.{IsWithin}
use Rattle.ass_num.specs.Regions.{in_runs, ascend}
use Rattle.ass_num.specs.declared.region.Run.{Run}

-- all samples of the run lie in the runs
abbrev pub IsRunCovered : Run → List Run → Type 0
IsRunCovered run runs = (i : ℤ) → run.from ≤ℤ i → i <ℤ run.to → in_runs runs i ≡ true

-- all samples within `width` of one of the row lie in the runs
abbrev pub Covers : ℕ → List Run → List Run → Type 0
Covers width row runs = (k i : ℤ) → in_runs row k ≡ true → IsWithin width (i -ℤ k) → in_runs runs i ≡ true

-- some sample of the row lies within `width` of sample i
abbrev pub Reaches : ℕ → List Run → ℤ → Type 0
Reaches width row i = (k : ℤ) × (in_runs row k ≡ true) × IsWithin width (i -ℤ k)

-- the runs hold just the samples within `width` of one of the row
pub record IsWidenedRow (width : ℕ) (row runs : List Run) : Type 0 where
  pub covers : Covers width row runs
  pub reached : (i : ℤ) → in_runs runs i ≡ true → Reaches width row i
  pub ascends : ascend runs ≡ true

-- the runs have gained just the samples within `width` of one of the row
pub record AddsWidened (width : ℕ) (row old new : List Run) : Type 0 where
  pub keeps : (i : ℤ) → in_runs old i ≡ true → in_runs new i ≡ true
  pub covers : Covers width row new
  pub reached : (i : ℤ) → in_runs new i ≡ true → (in_runs old i ≡ true) ⊎ Reaches width row i
  pub ascends : ascend new ≡ true
