-- Public: how much of a pixel a set of samples covers, the least boxes of pixels, and sums of masks.
use Rattle.std.specs.Prelude.{◌≡◌, ℕ, zero, suc, ℤ, pos, ◌+◌, ◌*◌, ◌/◌, ◌<◌, ◌+ℤ◌, ◌-ℤ◌, ◌*ℤ◌, ◌<ℤ◌, ◌≤ℤ◌, Bool, if◌then◌else◌, List, Any, sum_by, min}
use Rattle.ass_num.specs.Masks.{MaskValue, value_at}

-- the sum of f over the n whole numbers from i on
unfoldable pub sum_from : (ℤ → ℕ) → ℤ → ℕ → ℕ
sum_from f i zero = 0
sum_from f i (suc n) = sum_from f i n + f (i +ℤ pos n)

-- The first of the 16 samples of a pixel along an axis: under a phase, sample i falls in the pixel floor((i + phase) / 16).
abbrev pub first_sample : ℕ → ℤ → ℤ
first_sample phase x = (x *ℤ pos 16) -ℤ pos phase

-- 1 for a sample that the test passes, else 0
abbrev pub counted : (ℤ → ℤ → Bool) → ℤ → ℤ → ℕ
counted has i j = if has i j then 1 else 0

-- How many of the 16 by 16 samples of pixel (x, y) the test passes. A region's test is `member` of its top and its rows.
unfoldable pub samples_of : (ℤ → ℤ → Bool) → ℕ → ℕ → ℤ → ℤ → ℕ
samples_of has px py x y = sum_from (λ j. sum_from (λ i. counted has i j) (first_sample px x) 16) (first_sample py y) 16

-- the byte of so many of 256 samples, to the nearest
abbrev pub coverage_byte : ℕ → ℕ
coverage_byte count = (count * 255 + 128) / 256

-- a box of pixels with the corner (x, y), w pixels wide and h high
pub record PixelBox : Type 0 where
  pub x : ℤ
  pub y : ℤ
  pub w : ℕ
  pub h : ℕ

abbrev pub box_of : MaskValue → PixelBox
box_of m = record { x = m.x; y = m.y; w = m.w; h = m.h }

-- Pixel (i, j) lies in the box.
pub record InBox (b : PixelBox) (i j : ℤ) : Type 0 where
  pub left : b.x ≤ℤ i
  pub right : i <ℤ (b.x +ℤ pos b.w)
  pub top : b.y ≤ℤ j
  pub bottom : j <ℤ (b.y +ℤ pos b.h)

-- The box has all the pixels P, and lies in each box that has them.
pub record IsLeastBox (P : ℤ → ℤ → Type 0) (b : PixelBox) : Type 0 where
  pub has : (i j : ℤ) → P i j → InBox b i j
  pub least : (other : PixelBox) → ((i j : ℤ) → P i j → InBox other i j) → (i j : ℤ) → InBox b i j → InBox other i j

-- The mask of a set of samples under a phase: the coverage of each pixel, in the least box that has all pixels with a sample.
pub record IsCover (has : ℤ → ℤ → Bool) (px py : ℕ) (m : MaskValue) : Type 0 where
  pub value : (x y : ℤ) → value_at m x y ≡ coverage_byte (samples_of has px py x y)
  pub box : IsLeastBox (λ x y. 0 < samples_of has px py x y) (box_of m)

-- the value at pixel (x, y) of a mask that is moved right by dx and down by dy
abbrev pub moved_value : MaskValue × ℤ × ℤ → ℤ → ℤ → ℕ
moved_value p x y = value_at p.0 (x -ℤ p.1) (y -ℤ p.2)

-- Pixel (x, y) lies in the moved mask's box.
abbrev pub IsMovedPixel : MaskValue × ℤ × ℤ → ℤ → ℤ → Type 0
IsMovedPixel p x y = InBox (box_of p.0) (x -ℤ p.1) (y -ℤ p.2)

-- The sum of moved masks, at most 255 at each pixel, in the least box that has all their boxes.
pub record IsSum (parts : List (MaskValue × ℤ × ℤ)) (m : MaskValue) : Type 0 where
  pub value : (x y : ℤ) → value_at m x y ≡ min 255 (sum_by (λ p. moved_value p x y) parts)
  pub box : IsLeastBox (λ x y. Any (λ p. IsMovedPixel p x y) parts) (box_of m)
