-- Inner: runs of set pixels in a row of a bitmap.
use Rattle.std.specs.Prelude.{◌≡◌, ℕ, ◌-◌, ◌<◌, ◌≤◌, Bool, true, false, if◌then◌else◌, ℤ, pos, ◌+ℤ◌, List, [], ◌∷◌, flat_map}
use Rattle.std.specs.List.{range_with_len}
use Rattle.ass_num.specs.Bitmaps.{pixel_is_set}
use Rattle.ass_num.specs.declared.geometry.Matrix.{Matrix}
use Rattle.ass_num.specs.declared.geometry.Point.{Point}
use Rattle.outline_points.specs.Glyphs.{Bitmap, pixel_quads, quad}

-- No pixel of row j from one column up to another is set, and that one is, or is the width.
pub record IsGap (bitmap : Bitmap) (j from to : ℕ) : Type 0 where
  pub ordered : from ≤ to
  pub within : to ≤ bitmap.w
  pub clear : (i : ℕ) → from ≤ i → i < to → pixel_is_set bitmap.w bitmap.bits i j ≡ false
  pub ends : to < bitmap.w → pixel_is_set bitmap.w bitmap.bits to j ≡ true

-- All pixels of row j from one column up to another are set, and that one isn't, or is the width.
pub record IsSetRun (bitmap : Bitmap) (j from to : ℕ) : Type 0 where
  pub ordered : from ≤ to
  pub within : to ≤ bitmap.w
  pub set : (i : ℕ) → from ≤ i → i < to → pixel_is_set bitmap.w bitmap.bits i j ≡ true
  pub ends : to < bitmap.w → pixel_is_set bitmap.w bitmap.bits to j ≡ false

-- the quads of the pixels of row j from one column up to another
abbrev pub run_quads : Matrix → Bool → Bitmap → ℕ → ℕ → ℕ → List (List Point)
run_quads m bold bitmap j from to = flat_map (pixel_quads m bold bitmap j) (range_with_len from (to - from))

-- the rectangle of the pixels of a row from one column up to another, and its bold one
abbrev pub run_rings : Matrix → Bool → ℤ → ℤ → ℤ → List (List Point)
run_rings m bold top left right =
    quad m left top right (top +ℤ pos 1) ∷ (if bold then quad m (left +ℤ pos 1) top (right +ℤ pos 1) (top +ℤ pos 1) ∷ [] else [])
