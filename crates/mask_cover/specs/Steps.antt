-- Inner: counts of samples as sums of steps.
use Rattle.std.specs.Prelude.{◌≡◌, ℕ, zero, suc, ℤ, pos, ◌+◌, ◌-◌, ◌*◌, ◌<◌, ◌+ℤ◌, ◌-ℤ◌, ◌<ℤ◌, ◌≤ℤ◌, min, if◌then◌else◌, List, All, length, slice_index, slice_index_or, unsigned_abs}
use Rattle.ass_num.specs.Limits.{IsWithin}
use Rattle.ass_num.specs.Regions.{in_runs, row_at}
use Rattle.ass_num.specs.Coverage.{sum_from, coverage_byte}
use Rattle.ass_num.specs.declared.region.Run.{Run}

-- the sum of the first n steps
unfoldable pub sum_first : List ℤ → ℕ → ℤ
sum_first steps zero = pos 0
sum_first steps (suc n) = sum_first steps n +ℤ slice_index_or steps n (pos 0)

-- how many samples of pixel c stand at sample t or after it, counted from the first sample of pixel 0
abbrev pub samples_after : ℕ → ℕ → ℕ
samples_after t c = min 16 ((16 * c + 16) - t)

-- Each step lies within so much of 0.
abbrev pub AreStepsWithin : ℕ → List ℤ → Type 0
AreStepsWithin limit steps = (k : ℕ) → IsWithin limit (slice_index_or steps k (pos 0))

-- Each sum of first steps lies from 0 to so much.
abbrev pub CountsWithin : ℕ → List ℤ → Type 0
CountsWithin limit steps = (n : ℕ) → (pos 0 ≤ℤ sum_first steps n) × (sum_first steps n ≤ℤ pos limit)

-- how many samples of pixel c a row has, where pixel 0 begins at sample `left`
unfoldable pub row_count : List Run → ℤ → ℕ → ℕ
row_count runs left c = sum_from (λ i. if in_runs runs i then 1 else 0) (left +ℤ pos (16 * c)) 16

-- the same in n rows, of which the first is 16 * row - above
unfoldable pub cell_count : List (List Run) → ℤ → ℕ → ℕ → ℕ → ℕ → ℕ
cell_count rows left above row c n = sum_from (λ k. row_count (row_at rows k) left c) (pos (16 * row) -ℤ pos above) n

-- The runs lie in the pixels that n steps can count.
abbrev pub IsInside : ℤ → ℕ → List Run → Type 0
IsInside left n runs = All (λ r. (left ≤ℤ r.from) × ((r.to +ℤ pos 16) <ℤ (left +ℤ pos (16 * n)))) runs

-- The bytes of the counts of w pixels stand behind what was there.
pub record IsRowPushed (steps : List ℤ) (w : ℕ) (before samples_after : List ℕ) : Type 0 where
  pub count : length samples_after ≡ length before + w
  pub kept : (k : ℕ) → k < length before → slice_index samples_after k ≡ slice_index before k
  pub row : (c : ℕ) → c < w → slice_index samples_after (length before + c) ≡ coverage_byte (unsigned_abs (sum_first steps (c + 1)))

-- Row by row, the bytes are the coverage of h rows of w pixels.
pub record HasCells (rows : List (List Run)) (left : ℤ) (above w h : ℕ) (bytes : List ℕ) : Type 0 where
  pub count : length bytes ≡ w * h
  pub cells : (i j : ℕ) → i < w → j < h → slice_index bytes (j * w + i) ≡ coverage_byte (cell_count rows left above j i 16)

-- The coverage of w pixels of a row stands behind what was there.
pub record HasMoreCells (rows : List (List Run)) (left : ℤ) (above w row : ℕ) (before samples_after : List ℕ) : Type 0 where
  pub count : length samples_after ≡ length before + w
  pub kept : (k : ℕ) → k < length before → slice_index samples_after k ≡ slice_index before k
  pub cells : (i : ℕ) → i < w → slice_index samples_after (length before + i) ≡ coverage_byte (cell_count rows left above row i 16)
