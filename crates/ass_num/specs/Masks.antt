-- Public: masks, the coverage of the pixels of a box.
use Rattle.std.specs.Prelude.{ℕ, ℤ, pos, ◌+◌, ◌*◌, ◌-ℤ◌, Bool, ◌&&◌, ◌||◌, ◌==◌, not, nat_lt, List, length, slice_index_or, if◌then◌else◌}
use Rattle.std.specs.Ordering.{int_eq}

-- A mask as contracts see it: the box with the corner (x, y), w pixels wide and h high, and its bytes, row by row.
pub record MaskValue : Type 0 where
  pub x : ℤ
  pub y : ℤ
  pub w : ℕ
  pub h : ℕ
  pub bytes : List ℕ

-- a byte for each pixel of the box, and the one form of a mask without pixels
abbrev pub is_mask : MaskValue → Bool
is_mask m = (length m.bytes == m.w * m.h) && (not (length m.bytes == 0) || (int_eq m.x (pos 0) && (int_eq m.y (pos 0) && ((m.w == 0) && (m.h == 0)))))

-- the value so many columns right of and rows below the corner
abbrev pub offset_value : MaskValue → ℤ → ℤ → ℕ
offset_value m (pos i) (pos j) = if nat_lt i m.w && nat_lt j m.h then slice_index_or m.bytes (j * m.w + i) 0 else 0
offset_value m _ _ = 0

-- the coverage at pixel (x, y); outside the box it is 0
abbrev pub value_at : MaskValue → ℤ → ℤ → ℕ
value_at m x y = offset_value m (x -ℤ m.x) (y -ℤ m.y)
