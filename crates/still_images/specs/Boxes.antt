-- Public: the least box of the pixels at which two pictures differ, whose pixels have any number of bytes, and the part of a picture in a box.
use Rattle.std.specs.Prelude.{◌≡◌, ◌≢◌, ℕ, ◌+◌, ◌-◌, ◌*◌, ◌<◌, ◌≤◌, List, drop, length, take, slice_index, Option, Some, None}
use Rattle.std.specs.List.{flat_map, range_with_len}
use Rattle.ass_num.specs.declared.size.Size.{Size}
use Rattle.frame_change.specs.Changes.{IsInBox, LiesInside}
use Rattle.frame_change.specs.declared.pixels.Changed.{Changed}

-- Two pictures of w columns, whose pixels have so many bytes, differ in a byte of pixel (i, j).
abbrev pub DiffersIn : ℕ → ℕ → List ℕ → List ℕ → ℕ → ℕ → Type 0
DiffersIn depth w a b i j = (k : ℕ) × (k < depth) × (slice_index a (depth * (j * w + i) + k) ≢ slice_index b (depth * (j * w + i) + k))

-- The box has each pixel that differs.
abbrev pub HasAll : Size → (ℕ → ℕ → Type 0) → Changed → Type 0
HasAll size Differs box = (i j : ℕ) → i < size.w → j < size.h → Differs i j → IsInBox box i j

-- It is the least such box.
pub record IsLeastOf (size : Size) (Differs : ℕ → ℕ → Type 0) (box : Changed) : Type 0 where
  pub has : HasAll size Differs box
  pub least : (other : Changed) → HasAll size Differs other → LiesInside box other

-- The least box of the pixels at which two pictures differ: there is none exactly where they are equal.
abbrev pub IsBoxOfPixels : ℕ → Size → List ℕ → List ℕ → Option Changed → Type 0
IsBoxOfPixels depth size a b None = a ≡ b
IsBoxOfPixels depth size a b (Some box) = IsLeastOf size (DiffersIn depth size.w a b) box

-- A picture of this size has so many bytes.
abbrev pub HasPixels : ℕ → Size → List ℕ → Type 0
HasPixels depth size bytes = length bytes ≡ depth * (size.w * size.h)

-- The box stands on the frame, and has no less than nothing.
pub record IsOnFrame (size : Size) (box : Changed) : Type 0 where
  pub across : box.x1 ≤ box.x2
  pub right : box.x2 ≤ size.w
  pub down : box.y1 ≤ box.y2
  pub bottom : box.y2 ≤ size.h

abbrev pub whole_box : Size → Changed
whole_box size = record { x1 = 0; y1 = 0; x2 = size.w; y2 = size.h }

-- the size of a box
abbrev pub box_size : Changed → Size
box_size box = record { w = box.x2 - box.x1; h = box.y2 - box.y1 }

-- row y of the part of a picture in a box
abbrev pub cropped_row : ℕ → ℕ → Changed → List ℕ → ℕ → List ℕ
cropped_row depth w box bytes y = take (depth * (box.x2 - box.x1)) (drop (depth * (y * w + box.x1)) bytes)

-- the part of a picture in a box
abbrev pub cropped : ℕ → ℕ → Changed → List ℕ → List ℕ
cropped depth w box bytes = flat_map (cropped_row depth w box bytes) (range_with_len box.y1 (box.y2 - box.y1))
