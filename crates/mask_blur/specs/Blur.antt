-- Public: the box blur: every value of a picture becomes the mean of those around it, three times along its row and three times along its column.
use Rattle.std.specs.Prelude.{◌≡◌, ℕ, ℤ, pos, ◌+◌, ◌*◌, ◌/◌, ◌-ℤ◌}
use Rattle.ass_num.specs.Coverage.{sum_from, box_of}
use Rattle.ass_num.specs.Masks.{MaskValue, value_at}
use Rattle.mask_blur.specs.Growth.{grown_box}

-- the mean of 2 * r + 1 values with this sum, to the nearest
abbrev pub mean : ℕ → ℕ → ℕ
mean r sum = (sum + r) / (2 * r + 1)

-- the mean of a value, the r values before it and the r values behind it
abbrev pub smoothed : ℕ → (ℤ → ℕ) → ℤ → ℕ
smoothed r f i = mean r (sum_from f (i -ℤ pos r) (2 * r + 1))

-- one pass along the rows
abbrev pub along_rows : ℕ → (ℤ → ℤ → ℕ) → ℤ → ℤ → ℕ
along_rows r f x y = smoothed r (λ i. f i y) x

-- one pass along the columns
abbrev pub along_columns : ℕ → (ℤ → ℤ → ℕ) → ℤ → ℤ → ℕ
along_columns r f x y = smoothed r (λ j. f x j) y

unfoldable pub blurred : ℕ → (ℤ → ℤ → ℕ) → ℤ → ℤ → ℕ
blurred r f = along_columns r (along_columns r (along_columns r (along_rows r (along_rows r (along_rows r f)))))

-- The mask, blurred with the radius r; its box is wider by r pixels at both ends for each pass along that direction.
pub record IsBlurred (r : ℕ) (mask result : MaskValue) : Type 0 where
  pub value : (x y : ℤ) → value_at result x y ≡ blurred r (value_at mask) x y
  pub box : box_of result ≡ grown_box (3 * r) mask
