-- Inner: the columns in which rows of two pictures differ.
use Rattle.std.specs.Prelude.{◌≡◌, ◌≢◌, ℕ, ◌+◌, ◌-◌, ◌*◌, ◌<◌, ◌≤◌, List, length, slice_index}
use Rattle.frame_change.specs.Changes.{DiffersAt}

-- The bytes from a place up to another are the same.
abbrev pub AreSame : List ℕ → List ℕ → ℕ → ℕ → Type 0
AreSame a b first last = (k : ℕ) → first ≤ k → k < last → slice_index a k ≡ slice_index b k

-- Some byte from a place up to another differs.
abbrev pub SomeDiffers : List ℕ → List ℕ → ℕ → ℕ → Type 0
SomeDiffers a b first last = (k : ℕ) × (first ≤ k) × (k < last) × (slice_index a k ≢ slice_index b k)

-- x is the first of the columns left of `left` in which two rows differ, or `left`.
pub record IsLeft (a b : List ℕ) (left x : ℕ) : Type 0 where
  pub within : x ≤ left
  pub same : AreSame a b 0 (3 * x)
  pub differs : x < left → SomeDiffers a b (3 * x) (3 * x + 3)

-- x stands behind the last of the columns from `right` on in which two rows differ, or is `right`.
pub record IsRight (a b : List ℕ) (right x : ℕ) : Type 0 where
  pub within : right ≤ x
  pub in_row : 3 * x < length a + 3
  pub same : AreSame a b (3 * x) (length a)
  pub differs : right < x → SomeDiffers a b (3 * x - 3) (length a)

-- The rows from `first` up to `last` of two pictures of w columns differ in columns from `left` up to `right` alone, and in both of these ends.
pub record AreColumns (w : ℕ) (a b : List ℕ) (first last left right : ℕ) : Type 0 where
  pub left_within : left ≤ w
  pub right_within : right ≤ w
  pub has : (i j : ℕ) → i < w → first ≤ j → j < last → DiffersAt w a b i j → (left ≤ i) × (i < right)
  pub left_differs : left < w → (j : ℕ) × (first ≤ j) × (j < last) × DiffersAt w a b left j
  pub right_differs : 0 < right → (j : ℕ) × (first ≤ j) × (j < last) × DiffersAt w a b (right - 1) j
