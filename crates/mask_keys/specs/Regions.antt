-- Public: the region of a test of samples: by rows, the runs of the samples that pass it.
use Rattle.std.specs.Prelude.{ℕ, zero, suc, ◌+◌, ◌*◌, ℤ, pos, neg_ℤ, ◌+ℤ◌, Bool, List, [], ◌∷◌, if◌then◌else◌}
use Rattle.std.specs.Ordering.{int_eq}
use Rattle.ass_num.specs.Limits.{max_sample}
use Rattle.ass_num.specs.Regions.{RegionValue, member}
use Rattle.ass_num.specs.Winding.{inside}
use Rattle.ass_num.specs.declared.geometry.Point.{Point}
use Rattle.ass_num.specs.declared.region.Run.{Run}
use Rattle.region_rows.specs.Widened.{in_widened}
use Rattle.sample_region.specs.Limits.{max_inside}

-- sample i and the runs behind it; it begins the first of them where they touch
abbrev pub with_sample : ℤ → List Run → List Run
with_sample i [] = record { from = i; to = i +ℤ pos 1 } ∷ []
with_sample i (r ∷ runs) =
    if int_eq r.from (i +ℤ pos 1) then record { from = i; to = r.to } ∷ runs else record { from = i; to = i +ℤ pos 1 } ∷ r ∷ runs

-- the same where the sample passes, else the runs alone
abbrev pub with_sample_if : Bool → ℤ → List Run → List Run
with_sample_if passes i runs = if passes then with_sample i runs else runs

-- the runs of those of n samples from i on that pass
unfoldable pub runs_from : (ℤ → Bool) → ℤ → ℕ → List Run
runs_from passes i zero = []
runs_from passes i (suc n) = with_sample_if (passes i) i (runs_from passes (i +ℤ pos 1) n)

-- the runs of n rows from row j on, whose samples begin at `left` and are so many
unfoldable pub rows_from : (ℤ → ℤ → Bool) → ℤ → ℕ → ℤ → ℕ → List (List Run)
rows_from has left width j zero = []
rows_from has left width j (suc n) = runs_from (λ i. has i j) left width ∷ rows_from has left width (j +ℤ pos 1) n

-- a row before rows, unless all are empty
abbrev pub with_row_before : List Run → List (List Run) → List (List Run)
with_row_before [] [] = []
with_row_before runs rows = runs ∷ rows

-- the rows without the empty ones at the end
abbrev pub without_end : List (List Run) → List (List Run)
without_end [] = []
without_end (runs ∷ rows) = with_row_before runs (without_end rows)

-- the rows from `top` down without the empty ones at both ends
abbrev pub trimmed_region : ℤ → List (List Run) → RegionValue
trimmed_region top [] = record { top = pos 0; rows = [] }
trimmed_region top ([] ∷ rows) = trimmed_region (top +ℤ pos 1) rows
trimmed_region top ((r ∷ runs) ∷ rows) = record { top = top; rows = without_end ((r ∷ runs) ∷ rows) }

-- The region of the samples within `limit` of 0 that pass.
unfoldable pub region_within : ℕ → (ℤ → ℤ → Bool) → RegionValue
region_within limit has =
    trimmed_region (neg_ℤ (pos limit)) (rows_from has (neg_ℤ (pos limit)) (2 * limit + 1) (neg_ℤ (pos limit)) (2 * limit + 1))

-- the region of an outline: the samples inside its rings
abbrev pub outline_region : List (List Point) → RegionValue
outline_region rings = region_within max_inside (inside rings)

-- a region widened by an ellipse of samples
abbrev pub widened_region : ℕ → ℕ → RegionValue → RegionValue
widened_region rx ry r = region_within max_sample (in_widened (member r.top r.rows) rx ry)
