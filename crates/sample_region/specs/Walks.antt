-- Inner: a walk along the crossings of a row, step by step.
use Rattle.std.specs.Prelude.{ℤ, ◌≤ℤ◌, ◌<ℤ◌, List, [], ◌∷◌, ◌++◌, All}
use Rattle.sample_region.specs.Rows.{Walked}
use Rattle.sample_region.specs.declared.sweep.Crossing.{Crossing}
use Rattle.sample_region.specs.declared.row.RowCrossings.{RowCrossings}

abbrev pub HasWalked : ℤ → List Crossing → RowCrossings → Type 0
HasWalked low done w = Walked low done w.downs w.ups w.from w.runs.items

-- one more crossing, no lower than the others, is passed
abbrev pub Passes : Crossing → RowCrossings → RowCrossings → Type 0
Passes c old new = (low : ℤ) (done : List Crossing) → HasWalked low done old → low <ℤ c.at → All (λ e. e.at ≤ℤ c.at) done → HasWalked low (done ++ c ∷ []) new
