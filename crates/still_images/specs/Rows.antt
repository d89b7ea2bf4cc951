-- Inner: the columns in which rows of two pictures differ, whose pixels have four bytes.
use Rattle.std.specs.Prelude.{◌≡◌, ℕ, ◌+◌, ◌-◌, ◌*◌, ◌<◌, List, length, max, min, Option, Some, None}
use Rattle.frame_change.specs.Rows.{AreSame, SomeDiffers}
use Rattle.frame_change.specs.declared.pixels.Changed.{Changed}
use Rattle.still_images.specs.declared.alpha_box.Columns.{Columns}

-- Two rows differ from the first of the columns up to their end alone, and in both of these ends.
pub record DifferBetween (a b : List ℕ) (columns : Columns) : Type 0 where
  pub before : AreSame a b 0 (4 * columns.first)
  pub behind : AreSame a b (4 * columns.end) (length a)
  pub first : SomeDiffers a b (4 * columns.first) (4 * columns.first + 4)
  pub last : SomeDiffers a b (4 * columns.end - 4) (4 * columns.end)
  pub order : columns.first < columns.end
  pub within : 4 * columns.end < length a + 4

abbrev pub AreColumnsOf : List ℕ → List ℕ → Option Columns → Type 0
AreColumnsOf a b None = a ≡ b
AreColumnsOf a b (Some columns) = DifferBetween a b columns

-- the columns of row y as a box
abbrev pub row_box : Columns → ℕ → Changed
row_box columns y = record { x1 = columns.first; y1 = y; x2 = columns.end; y2 = y + 1 }

-- the least box that has two boxes, the second of which stands on row y under the first
abbrev pub row_under : Changed → Columns → ℕ → Changed
row_under above columns y = record { x1 = min above.x1 columns.first; y1 = above.y1; x2 = max above.x2 columns.end; y2 = y + 1 }

abbrev pub with_columns : Option Changed → Option Columns → ℕ → Option Changed
with_columns changed None y = changed
with_columns None (Some columns) y = Some (row_box columns y)
with_columns (Some above) (Some columns) y = Some (row_under above columns y)
