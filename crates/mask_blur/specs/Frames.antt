-- Inner: bytes with zeros all around.
use Rattle.std.specs.Prelude.{◌≡◌, ℕ, ℤ, pos, ◌+◌, ◌*◌, ◌<◌, ◌≤◌, ◌⊎◌, ◌+ℤ◌, ◌-ℤ◌, List, slice_index}
use Rattle.mask_blur.specs.Shown.{Shows, IsCellAt}
use Rattle.mask_blur.specs.Softening.{neighbour_sum, softer}

-- Place (i, j) is within m of a side of w by h places, or within m + 2 of the lower one.
abbrev pub IsInFrame : (w h m i j : ℕ) → Type 0
IsInFrame w h m i j = (i < m) ⊎ (w ≤ i + m) ⊎ (j < m) ⊎ (h ≤ j + m + 2)

-- The places of the frame are 0.
abbrev pub IsFramed : (w h m : ℕ) (bytes : List ℕ) → Type 0
IsFramed w h m bytes = (i j : ℕ) → i < w → j < h → IsInFrame w h m i j → slice_index bytes (j * w + i) ≡ 0

-- A pass over 16 columns from column `at` on has come from row m to row k: what it wrote, the sums of row k, and those of the row before and of row k with 8.
pub record IsSoftenedTo (w h m at k : ℕ) (from before to last both : List ℕ) : Type 0 where
  pub cells : (f : ℤ → ℤ → ℕ) (x y : ℤ) → Shows f x y w h from → (j i : ℕ) → i < w
      → ((m ≤ j) × (j < k) × (at ≤ i) × (i < at + 16)) ⊎ IsCellAt (softer f) x y w before i j → IsCellAt (softer f) x y w to i j
  pub last_sums : (f : ℤ → ℤ → ℕ) (x y : ℤ) → Shows f x y w h from → (b : ℕ) → b < 16
      → slice_index last b ≡ neighbour_sum (λ u. f u (y +ℤ pos k)) (x +ℤ pos (at + b))
  pub both_sums : (f : ℤ → ℤ → ℕ) (x y : ℤ) → Shows f x y w h from → (b : ℕ) → b < 16
      → slice_index both b ≡ neighbour_sum (λ u. f u ((y +ℤ pos k) -ℤ pos 1)) (x +ℤ pos (at + b)) + neighbour_sum (λ u. f u (y +ℤ pos k)) (x +ℤ pos (at + b)) + 8
