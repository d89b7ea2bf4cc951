-- Inner: what the rows on one side of a row, and on both, reach in it.
use Rattle.std.specs.Prelude.{◌≡◌, ℕ, ℤ, pos, ◌+ℤ◌, ◌-ℤ◌, ◌<◌, ◌⊎◌, Bool, true, List, length, slice_index}
use Rattle.ass_num.specs.Limits.{IsWithin}
use Rattle.ass_num.specs.Regions.{RegionValue, in_runs, ascend}
use Rattle.ass_num.specs.declared.region.Run.{Run}
use Rattle.border_region.specs.Frontier.{is_seen}

-- a sample of the region d rows on lies within the half width for d of sample i
pub record IsReachedFrom (region : RegionValue) (upwards : Bool) (widths : List ℕ) (key i : ℤ) (d : ℕ) (k : ℤ) : Type 0 where
  pub within : d < length widths
  pub seen : is_seen region upwards (key +ℤ pos d) k ≡ true
  pub near : IsWithin (slice_index widths d) (i -ℤ k)

-- the runs have gained just what the rows from a key on reach in the row at the key
pub record AddsSide (region : RegionValue) (upwards : Bool) (widths : List ℕ) (key : ℤ) (old new : List Run) : Type 0 where
  pub keeps : (i : ℤ) → in_runs old i ≡ true → in_runs new i ≡ true
  pub covers : (i : ℤ) (d : ℕ) (k : ℤ) → IsReachedFrom region upwards widths key i d k → in_runs new i ≡ true
  pub reached : (i : ℤ) → in_runs new i ≡ true → (in_runs old i ≡ true) ⊎ ((d : ℕ) × (k : ℤ) × IsReachedFrom region upwards widths key i d k)
  pub ascends : ascend new ≡ true

-- the runs hold what the row at the key itself reaches
abbrev pub HoldsMiddle : RegionValue → Bool → List ℕ → ℤ → List Run → Type 0
HoldsMiddle region upwards widths key runs = (i k : ℤ) → is_seen region upwards key k ≡ true → IsWithin (slice_index widths 0) (i -ℤ k) → in_runs runs i ≡ true
