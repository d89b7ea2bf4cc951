-- Inner: values along a line.
use Rattle.std.specs.Prelude.{◌≡◌, ℕ, ℤ, pos, ◌<◌, ◌+ℤ◌, ◌<ℤ◌, ◌≤ℤ◌, List, length, slice_index}

-- The list has the values from `at` on.
abbrev pub Lays : (ℤ → ℕ) → ℤ → List ℕ → Type 0
Lays f at xs = (k : ℕ) → k < length xs → slice_index xs k ≡ f (at +ℤ pos k)

-- The values outside a stretch of so many from `at` on are 0.
pub record IsZeroBeside (f : ℤ → ℕ) (at : ℤ) (count : ℕ) : Type 0 where
  pub before : (i : ℤ) → i <ℤ at → f i ≡ 0
  pub behind : (i : ℤ) → (at +ℤ pos count) ≤ℤ i → f i ≡ 0
