-- Public: softening: every value of a picture becomes a weighted mean of its neighbourhood, so many times.
use Rattle.std.specs.Prelude.{◌≡◌, ℕ, zero, suc, ℤ, pos, ◌+◌, ◌*◌, ◌/◌, ◌+ℤ◌, ◌-ℤ◌}
use Rattle.ass_num.specs.Coverage.{box_of}
use Rattle.ass_num.specs.Masks.{MaskValue, value_at}
use Rattle.mask_blur.specs.Growth.{grown_box}

-- a value and the two beside it, with the weights 1 2 1
abbrev pub neighbour_sum : (ℤ → ℕ) → ℤ → ℕ
neighbour_sum f i = f (i -ℤ pos 1) + 2 * f i + f (i +ℤ pos 1)

-- One pass: the 3 by 3 values around (x, y), with the weights 1 2 1 in their rows and the weights 1 2 1 of the rows, in 16ths to the nearest.
abbrev pub softer : (ℤ → ℤ → ℕ) → ℤ → ℤ → ℕ
softer f x y = (neighbour_sum (λ j. neighbour_sum (λ i. f i j) x) y + 8) / 16

-- so many passes
unfoldable pub softened : ℕ → (ℤ → ℤ → ℕ) → ℤ → ℤ → ℕ
softened zero f = f
softened (suc n) f = softer (softened n f)

-- The mask, softened n times; its box is wider by a pixel on each side for each pass.
pub record IsSoftened (n : ℕ) (mask result : MaskValue) : Type 0 where
  pub value : (x y : ℤ) → value_at result x y ≡ softened n (value_at mask) x y
  pub box : box_of result ≡ grown_box n mask
