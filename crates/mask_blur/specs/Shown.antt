-- Inner: pictures that the bytes of a box show.
use Rattle.std.specs.Prelude.{◌≡◌, ℕ, ℤ, pos, ◌+◌, ◌*◌, ◌<◌, ◌+ℤ◌, List, slice_index}
use Rattle.mask_blur.specs.Lines.{IsZeroBeside}

-- The bytes begin with the values of h rows of w pixels from (x, y) on, row by row.
pub record HasMaskRows (f : ℤ → ℤ → ℕ) (x y : ℤ) (w h : ℕ) (bytes : List ℕ) : Type 0 where
  pub cells : (i j : ℕ) → i < w → j < h → slice_index bytes (j * w + i) ≡ f (x +ℤ pos i) (y +ℤ pos j)

-- The values outside a box are 0.
pub record IsBoxed (f : ℤ → ℤ → ℕ) (x y : ℤ) (w h : ℕ) : Type 0 where
  pub rows : (v : ℤ) → IsZeroBeside (λ u. f u v) x w
  pub columns : (u : ℤ) → IsZeroBeside (λ v. f u v) y h

-- Both: the bytes tell the whole picture.
pub record Shows (f : ℤ → ℤ → ℕ) (x y : ℤ) (w h : ℕ) (bytes : List ℕ) : Type 0 where
  pub inside : HasMaskRows f x y w h bytes
  pub outside : IsBoxed f x y w h

-- Place (i, j) of rows of w bytes has the value that lies so far from (x, y).
abbrev pub IsCellAt : (f : ℤ → ℤ → ℕ) (x y : ℤ) (w : ℕ) (bytes : List ℕ) (i j : ℕ) → Type 0
IsCellAt f x y w bytes i j = slice_index bytes (j * w + i) ≡ f (x +ℤ pos i) (y +ℤ pos j)
