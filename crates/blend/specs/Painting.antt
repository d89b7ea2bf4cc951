-- Public: the picture of a list of images, and the bands of rows that it is painted in at once.
use Rattle.std.specs.Prelude.{◌≡◌, ℕ, ◌+◌, ◌*◌, ◌≤◌, List, fold}
use Rattle.ass_num.specs.declared.size.Size.{Size}
use Rattle.blend.specs.Blending.{Image}
use Rattle.blend.specs.Canvases.{CanvasValue, black, drawn}

-- The picture of a list of images: from black, one after the other.
abbrev pub picture_of : Size → List Image → CanvasValue
picture_of size images = fold drawn (black size.w size.h) images

-- a canvas of this size with these bytes
abbrev pub canvas_at : Size → List ℕ → CanvasValue
canvas_at size bytes = record { w = size.w; h = size.h; bytes = bytes }

-- So many bytes are whole rows of a picture of this size, of which the first begins at this byte.
pub record IsBand (size : Size) (start bytes : ℕ) : Type 0 where
  pub top : ℕ
  pub h : ℕ
  pub begins : start ≡ 3 * (size.w * top)
  pub rows : bytes ≡ 3 * (size.w * h)
  pub within : top + h ≤ size.h
