-- Public: the limits that several crates cite, and how far numbers, points and samples lie from 0. These are conditions of calls.
use Rattle.std.specs.Prelude.{ℕ, ℤ, pos, neg_ℤ, ◌+◌, ◌+ℤ◌, ◌≤◌, ◌≤ℤ◌, List, length, All}
use Rattle.ass_num.specs.Masks.{MaskValue}
use Rattle.ass_num.specs.declared.geometry.Point.{Point}
use Rattle.ass_num.specs.declared.region.Run.{Run}
use Rattle.ass_num.specs.declared.size.Size.{Size}

-- the most bytes that a script or a font may have
abbrev pub max_file_bytes : ℕ
max_file_bytes = 67108864

-- the most bytes of a chunk, of an event's texts together, and the most items of a text
abbrev pub max_text_bytes : ℕ
max_text_bytes = 134217728

-- the last instant, in milliseconds
abbrev pub max_instant : ℕ
max_instant = 4000000000000

-- the most columns and the most rows of a frame
abbrev pub max_frame_side : ℕ
max_frame_side = 4096

-- the farthest from 0 that a number of a script or a tag may be, in thousandths
abbrev pub max_held : ℕ
max_held = 1000000000

-- the farthest from 0 that a whole number of a script may be: it has 31 bits under its sign
abbrev pub max_whole : ℕ
max_whole = 2147483647

-- the farthest from 0 that a coordinate of an outline may be, in 1/64 pixel
abbrev pub max_coordinate : ℕ
max_coordinate = 262144

-- the farthest from 0 that a sample of a region may be
abbrev pub max_sample : ℕ
max_sample = 131072

-- the farthest from 0 that the corner of a mask that is placed may lie, and the most pixels that such a mask has along a side
abbrev pub max_mask_corner : ℕ
max_mask_corner = 65536

abbrev pub max_mask_side : ℕ
max_mask_side = 65536

-- the farthest that such a mask may be moved
abbrev pub max_mask_shift : ℕ
max_mask_shift = 32768

-- 1 in numbers with 16 fraction bits
abbrev pub one_16 : ℕ
one_16 = 65536

-- the number lies within `limit` of 0
abbrev pub IsWithin : ℕ → ℤ → Type 0
IsWithin limit z = (neg_ℤ (pos limit) ≤ℤ z) × (z ≤ℤ pos limit)

-- both coordinates do
pub record IsPointWithin (limit : ℕ) (p : Point) : Type 0 where
  pub x : IsWithin limit p.x
  pub y : IsWithin limit p.y

-- a number as scripts and tags hold it, in thousandths
abbrev pub IsHeldNumber : ℤ → Type 0
IsHeldNumber z = IsWithin max_held z

-- the same, and not below 0
abbrev pub IsHeldLength : ℤ → Type 0
IsHeldLength z = (pos 0 ≤ℤ z) × (z ≤ℤ pos max_held)

-- a point of a path
abbrev pub IsHeldPoint : Point → Type 0
IsHeldPoint p = IsPointWithin max_held p

-- an instant of a run, in milliseconds
abbrev pub IsInstant : ℕ → Type 0
IsInstant t = t ≤ max_instant

-- a frame of at most so many columns and rows
pub record IsFrameSize (size : Size) : Type 0 where
  pub wide : size.w ≤ max_frame_side
  pub high : size.h ≤ max_frame_side

-- a point of an outline
abbrev pub IsOutlinePoint : Point → Type 0
IsOutlinePoint p = IsPointWithin max_coordinate p

-- all points of the rings are
abbrev pub IsOutline : List (List Point) → Type 0
IsOutline rings = All (All IsOutlinePoint) rings

-- the samples of the run lie within `limit` of 0
pub record IsRunWithin (limit : ℕ) (run : Run) : Type 0 where
  pub left : neg_ℤ (pos limit) ≤ℤ run.from
  pub right : run.to ≤ℤ pos (limit + 1)

-- and those of all rows from `top` down
pub record IsRegionWithin (limit : ℕ) (top : ℤ) (rows : List (List Run)) : Type 0 where
  pub above : neg_ℤ (pos limit) ≤ℤ top
  pub below : (top +ℤ pos (length rows)) ≤ℤ pos (limit + 1)
  pub runs : All (All (IsRunWithin limit)) rows

-- the corner of the mask lies within `corner` of 0, and no side has more than `side` pixels
pub record IsMaskWithin (corner side : ℕ) (m : MaskValue) : Type 0 where
  pub x : IsWithin corner m.x
  pub y : IsWithin corner m.y
  pub w : m.w ≤ side
  pub h : m.h ≤ side
