-- Public: canvases, and the fold that makes a picture: `fold drawn (black w h) images`.
use Rattle.std.specs.Prelude.{ℕ, ◌*◌, List, replicate}
use Rattle.blend.specs.Blending.{Image, painted}

-- A canvas as contracts see it: the width and the height in pixels, and three bytes for each pixel (red, green, blue), row by row from the top left.
pub record CanvasValue : Type 0 where
  pub w : ℕ
  pub h : ℕ
  pub bytes : List ℕ

abbrev pub black : ℕ → ℕ → CanvasValue
black w h = record { w = w; h = h; bytes = replicate (3 * (w * h)) 0 }

-- a canvas after an image was drawn
abbrev pub drawn : CanvasValue → Image → CanvasValue
drawn c image = record c { bytes = painted image c.w 0 c.bytes }
