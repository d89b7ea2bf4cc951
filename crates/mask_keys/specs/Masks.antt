-- Public: the mask of a set of samples under a phase, softened and blurred masks, and sums of masks, as functions.
use Rattle.std.specs.Prelude.{ℕ, ◌*◌, ℤ, pos, ◌+ℤ◌, ◌-ℤ◌, Bool, ◌&&◌, nat_lt, int_le, int_lt, List, sum_by, min}
use Rattle.std.specs.List.{list_any}
use Rattle.ass_num.specs.Coverage.{PixelBox, box_of, samples_of, coverage_byte, moved_value}
use Rattle.ass_num.specs.Masks.{MaskValue, value_at}
use Rattle.ass_num.specs.Regions.{RegionValue, member}
use Rattle.mask_blur.specs.Blur.{blurred}
use Rattle.mask_blur.specs.Growth.{grown_box}
use Rattle.mask_blur.specs.Softening.{softened}
use Rattle.mask_keys.specs.Boxes.{box_within, mask_in}

-- no pixel that a region covers lies so far from 0
abbrev pub max_covered : ℕ
max_covered = 32000

-- The mask of a region under a phase: the coverage of each pixel, in the least box of the pixels that have a sample.
abbrev pub covered_mask : ℕ → ℕ → RegionValue → MaskValue
covered_mask px py r =
    mask_in (box_within max_covered (λ x y. nat_lt 0 (samples_of (member r.top r.rows) px py x y)))
    (λ x y. coverage_byte (samples_of (member r.top r.rows) px py x y))

-- the mask after so many passes of softening
abbrev pub softened_mask : ℕ → MaskValue → MaskValue
softened_mask n m = mask_in (grown_box n m) (softened n (value_at m))

-- the mask after a blur
abbrev pub blurred_mask : ℕ → MaskValue → MaskValue
blurred_mask r m = mask_in (grown_box (3 * r) m) (blurred r (value_at m))

-- no pixel of a sum lies so far from 0
abbrev pub max_summed : ℕ
max_summed = 524288

-- pixel (i, j) lies in the box
abbrev pub is_in_box : PixelBox → ℤ → ℤ → Bool
is_in_box b i j = (int_le b.x i && int_lt i (b.x +ℤ pos b.w)) && (int_le b.y j && int_lt j (b.y +ℤ pos b.h))

-- and in that of a moved mask
abbrev pub is_in_moved : ℤ → ℤ → MaskValue × ℤ × ℤ → Bool
is_in_moved i j p = is_in_box (box_of p.0) (i -ℤ p.1) (j -ℤ p.2)

-- The sum of moved masks, at most 255 at each pixel, in the least box that has their boxes.
abbrev pub summed_mask : List (MaskValue × ℤ × ℤ) → MaskValue
summed_mask parts =
    mask_in (box_within max_summed (λ x y. list_any (is_in_moved x y) parts)) (λ x y. min 255 (sum_by (λ p. moved_value p x y) parts))
