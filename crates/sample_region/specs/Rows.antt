-- Inner: a walk along the crossings of a row, which finds its runs.
use Rattle.std.specs.Prelude.{◌≡◌, ℕ, ℤ, pos, ◌-ℤ◌, ◌≤ℤ◌, ◌<ℤ◌, true, not, ◌&&◌, ◌||◌, nat_eq, int_le, List, [], ◌∷◌, ◌++◌, ◌⊎◌, All}
use Rattle.ass_num.specs.Regions.{in_runs, ascend}
use Rattle.ass_num.specs.declared.region.Run.{Run}
use Rattle.sample_region.specs.Crossings.{downs, ups, is_odd}
use Rattle.sample_region.specs.declared.sweep.Crossing.{Crossing}

-- runs that begin above low, ascend without touching, and end at high or before
abbrev pub IsRowBetween : ℤ → List Run → ℤ → Type 0
IsRowBetween low [] high = low ≤ℤ high
IsRowBetween low (r ∷ rs) high = (low <ℤ r.from) × (r.from <ℤ r.to) × IsRowBetween r.to rs high

-- What is known once the crossings of `done` are passed, all after `low`: d of them went down and u up. Where they differ, a run that began at `from` is open.
pub record Walked (low : ℤ) (done : List Crossing) (d u : ℕ) (from : ℤ) (runs : List Run) : Type 0 where
  pub downs_is : d ≡ downs done
  pub ups_is : u ≡ ups done
  pub covers : (i : ℤ) → (in_runs runs i || (not (nat_eq d u) && int_le from i)) ≡ is_odd i done
  pub outer : d ≡ u → (high : ℤ) → low ≤ℤ high → All (λ c. c.at ≤ℤ high) done → IsRowBetween low runs high
  pub inner : (d ≡ u → ⊥) → IsRowBetween low runs (from -ℤ pos 1) × ((high : ℤ) → All (λ c. c.at ≤ℤ high) done → from ≤ℤ high)

-- a last run that ends at `place` is taken back, and begins again where it began; else the runs stay, and one begins at `place`
abbrev pub Reopens : ℤ → List Run → ℤ → List Run → Type 0
Reopens place old from new = ((r : Run) × (old ≡ new ++ r ∷ []) × (r.to ≡ place) × (from ≡ r.from))
    ⊎ ((new ≡ old) × (from ≡ place) × ((rs : List Run) (r : Run) → old ≡ rs ++ r ∷ [] → r.to ≡ place → ⊥))

-- the runs hold the samples at which the crossings don't balance
pub record IsRowOf (cs : List Crossing) (runs : List Run) : Type 0 where
  pub covers : (i : ℤ) → in_runs runs i ≡ is_odd i cs
  pub ascends : ascend runs ≡ true
