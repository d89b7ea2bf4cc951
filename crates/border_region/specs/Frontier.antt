-- Inner: a region as it is seen from below or from above, and the rows that reach beyond the rows before them.
use Rattle.std.specs.Prelude.{◌≡◌, ℕ, ◌+◌, ◌-◌, ℤ, pos, neg_ℤ, ◌-ℤ◌, ◌≤ℤ◌, ◌<◌, ◌⊎◌, Bool, true, false, List, length}
use Rattle.border_region.specs.Limits.{max_key}
use Rattle.ass_num.specs.Limits.{max_sample}
use Rattle.ass_num.specs.Regions.{RegionValue, member}
use Rattle.border_region.specs.Keys.{AreAscending, key_at}

-- the row at a key: the key itself, or with its sign turned where the rows are taken upwards
abbrev pub row_of_key : Bool → ℤ → ℤ
row_of_key true key = neg_ℤ key
row_of_key false key = key

-- sample i of the row at a key belongs to the region
abbrev pub is_seen : RegionValue → Bool → ℤ → ℤ → Bool
is_seen region upwards key i = member region.top region.rows i (row_of_key upwards key)

-- Each sample of the region stands in a row at one of the ascending keys, or the row before has it too.
pub record IsFrontier (region : RegionValue) (upwards : Bool) (keys : List ℤ) : Type 0 where
  pub ascends : AreAscending keys
  pub near : (n : ℕ) → n < length keys → (neg_ℤ (pos max_key) ≤ℤ key_at keys n) × (key_at keys n ≤ℤ pos max_key)
  pub complete : (key i : ℤ) → is_seen region upwards key i ≡ true → (is_seen region upwards (key -ℤ pos 1) i ≡ true) ⊎ ((n : ℕ) × (n < length keys) × (key_at keys n ≡ key))

-- the rows lie within reach of a region's samples
abbrev pub AreRowsNear : List ℤ → Type 0
AreRowsNear rows = (n : ℕ) → n < length rows → (neg_ℤ (pos max_sample) ≤ℤ key_at rows n) × (key_at rows n ≤ℤ pos (max_sample + 1))

-- Each row that hasn't the samples of the row before it is one of the ascending rows.
pub record AreChanges (region : RegionValue) (rows : List ℤ) : Type 0 where
  pub ascends : AreAscending rows
  pub near : AreRowsNear rows
  pub complete : (j i : ℤ) → (member region.top region.rows i j ≡ member region.top region.rows i (j -ℤ pos 1)) ⊎ ((n : ℕ) × (n < length rows) × (key_at rows n ≡ j))

-- the n-th key at which a row is one of these, or the row before it is where the rows are taken upwards
abbrev pub change_key : Bool → List ℤ → ℕ → ℤ
change_key true rows n = pos 1 -ℤ key_at rows (length rows - 1 - n)
change_key false rows n = key_at rows n
