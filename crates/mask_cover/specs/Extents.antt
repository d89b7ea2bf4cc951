-- Public: boxes that moved masks can reach, and stretches along an axis.
use Rattle.std.specs.Prelude.{◌≡◌, ℕ, ℤ, pos, neg_ℤ, ◌+◌, ◌<◌, ◌+ℤ◌, ◌≤ℤ◌, ◌⊎◌}
use Rattle.ass_num.specs.Coverage.{PixelBox}
use Rattle.ass_num.specs.Limits.{max_mask_corner, max_mask_side, max_mask_shift}

-- A stretch that masks can reach which may be added.
pub record IsStretchNear (from : ℤ) (len : ℕ) : Type 0 where
  pub low : neg_ℤ (pos (max_mask_corner + max_mask_shift)) ≤ℤ from
  pub high : (from +ℤ pos len) ≤ℤ pos (max_mask_corner + max_mask_shift + max_mask_side)

-- A box of pixels that such masks can reach, or the one without pixels.
pub record IsExtent (b : PixelBox) : Type 0 where
  pub across : IsStretchNear b.x b.w
  pub down : IsStretchNear b.y b.h
  pub full : 0 < b.w → 0 < b.h
  pub x : b.w ≡ 0 → b.x ≡ pos 0
  pub y : b.w ≡ 0 → b.y ≡ pos 0
  pub h : b.w ≡ 0 → b.h ≡ 0

-- The least stretch that has two, of which the first may be empty.
pub record JoinsStretch (a : ℤ) (a_len : ℕ) (b : ℤ) (b_len : ℕ) (from : ℤ) (len : ℕ) : Type 0 where
  pub near : IsStretchNear from len
  pub some : 0 < len
  pub first_from : 0 < a_len → from ≤ℤ a
  pub first_to : 0 < a_len → (a +ℤ pos a_len) ≤ℤ (from +ℤ pos len)
  pub second_from : from ≤ℤ b
  pub second_to : (b +ℤ pos b_len) ≤ℤ (from +ℤ pos len)
  pub begins : (from ≡ b) ⊎ ((0 < a_len) × (from ≡ a))
  pub ends : (from +ℤ pos len ≡ b +ℤ pos b_len) ⊎ ((0 < a_len) × (from +ℤ pos len ≡ a +ℤ pos a_len))
