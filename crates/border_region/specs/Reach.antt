-- Inner: how far a side of a strip reaches in each row once the strip is widened, as numbers of which the least reaches furthest.
use Rattle.std.specs.Prelude.{◌≡◌, ℕ, ◌+◌, ◌*◌, ◌-◌, ◌<◌, ◌≤◌, ◌⊎◌, ℤ, pos, ◌-ℤ◌, ◌≤ℤ◌, List, length, slice_index}
use Rattle.ass_num.specs.Limits.{IsWithin, max_sample}
use Rattle.border_region.specs.Limits.{max_radius}
use Rattle.border_region.specs.Keys.{key_at}

-- half widths of the rows of an ellipse from its first row to its last: they grow to the middle one, and fall from there
pub record IsProfile (middle : ℕ) (profile : List ℤ) : Type 0 where
  pub count : length profile ≡ 2 * middle + 1
  pub few : middle ≤ max_radius
  pub least : (p : ℕ) → p < length profile → pos 0 ≤ℤ key_at profile p
  pub most : (p : ℕ) → p < length profile → key_at profile p ≤ℤ pos max_radius
  pub grows : (p : ℕ) → p < middle → key_at profile p ≤ℤ key_at profile (p + 1)
  pub falls : (p : ℕ) → middle ≤ p → p + 1 < length profile → key_at profile (p + 1) ≤ℤ key_at profile p

-- row p of the profile lies d rows from the middle one
abbrev pub IsRowAt : ℕ → ℕ → ℕ → Type 0
IsRowAt middle d p = (p ≡ middle + d) ⊎ (p + d ≡ middle)

-- the half widths in the middle row and in each of the rows below it, put on both sides of the middle
pub record IsProfileOf (widths : List ℕ) (profile : List ℤ) : Type 0 where
  pub count : length profile + 1 ≡ 2 * length widths
  pub each : (d p : ℕ) → d < length widths → IsRowAt (length widths - 1) d p → key_at profile p ≡ pos (slice_index widths d)

-- row m of the widened side reaches as far as row k of the side, by row m - k of the profile
pub record IsReachOf (profile side : List ℤ) (m : ℕ) (reach : ℤ) (k p : ℕ) : Type 0 where
  pub row : k < length side
  pub within : p < length profile
  pub sum : k + p ≡ m
  pub is : reach ≡ key_at side k -ℤ key_at profile p

-- each row of the widened side reaches as far as one of the rows of the side does in it
abbrev pub AreReached : List ℤ → List ℤ → List ℤ → Type 0
AreReached profile side wide = (m : ℕ) → m < length wide → (k : ℕ) × (p : ℕ) × IsReachOf profile side m (key_at wide m) k p

-- and, for the rows of the side and of the profile that are done, none reaches further
abbrev pub AreLeast : (ℕ → ℕ → Type 0) → List ℤ → List ℤ → List ℤ → Type 0
AreLeast IsDone profile side wide = (k p : ℕ) → k < length side → p < length profile → IsDone k p → key_at wide (k + p) ≤ℤ (key_at side k -ℤ key_at profile p)

-- the widened side while it is found
pub record IsWideSide (IsDone : ℕ → ℕ → Type 0) (profile side wide : List ℤ) : Type 0 where
  pub some : 0 < length side
  pub count : length wide + 1 ≡ length side + length profile
  pub reached : AreReached profile side wide
  pub least : AreLeast IsDone profile side wide

-- done above the first `count` rows of the side: the middle, what lies above them, and what lies below the last one
abbrev pub IsDoneAbove : ℕ → List ℤ → ℕ → ℕ → ℕ → Type 0
IsDoneAbove middle side count k p = (p ≡ middle) ⊎ (((p < middle) × (k < count)) ⊎ ((middle < p) × (length side ≤ k + 1)))

-- done above all, and below the last `count` rows of the side
abbrev pub IsDoneBelow : ℕ → List ℤ → ℕ → ℕ → ℕ → Type 0
IsDoneBelow middle side count k p = (p ≤ middle) ⊎ (length side ≤ k + count)

-- in each row the widened side reaches as far as from one of the side's rows, and from none further
pub record IsWidenedSide (profile side wide : List ℤ) : Type 0 where
  pub count : length wide + 1 ≡ length side + length profile
  pub reached : AreReached profile side wide
  pub least : (k p : ℕ) → k < length side → p < length profile → key_at wide (k + p) ≤ℤ (key_at side k -ℤ key_at profile p)

-- The numbers at `k` plus a row of the profile from `first` up to `end` were lowered to the side less that row's width, where they were greater.
pub record AreLowered (profile : List ℤ) (side : ℤ) (k first end : ℕ) (old new : List ℤ) : Type 0 where
  pub count : length new ≡ length old
  pub no_more : (m : ℕ) → m < length old → key_at new m ≤ℤ key_at old m
  pub least : (p : ℕ) → first ≤ p → p < end → key_at new (k + p) ≤ℤ (side -ℤ key_at profile p)
  pub either : (m : ℕ) → m < length old → (key_at new m ≡ key_at old m) ⊎ ((p : ℕ) × (first ≤ p) × (p < end) × (k + p ≡ m) × (key_at new m ≡ side -ℤ key_at profile p))

-- the numbers of a side are those of samples, or of samples with their sign turned
abbrev pub IsSide : List ℤ → Type 0
IsSide side = (k : ℕ) → k < length side → IsWithin (max_sample + 1) (key_at side k)
