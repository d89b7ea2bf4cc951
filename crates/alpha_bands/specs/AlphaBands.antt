-- Inner: whole rows of a picture with alpha.
use Rattle.std.specs.Prelude.{◌≡◌, ℕ, ◌+◌, ◌*◌, ◌^◌, ◌<◌}

-- So many bytes are whole rows of a picture of width w, of which the first begins at this byte.
pub record AreBandRows (w start bytes : ℕ) : Type 0 where
  pub top : ℕ
  pub h : ℕ
  pub begins : start ≡ 4 * (w * top)
  pub rows : bytes ≡ 4 * (w * h)
  pub small : top + h < 2 ^ 32
