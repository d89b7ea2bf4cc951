-- Public: a picture that is cut into bands of rows, each drawn by itself.
use Rattle.std.specs.Prelude.{◌≡◌, ℕ, ◌+◌, ◌*◌, List, [], ◌∷◌, ◌++◌, length, take, drop, fold, sum}
use Rattle.blend.specs.Blending.{Image, painted}
use Rattle.blend.specs.Canvases.{CanvasValue, drawn}

-- the bytes of a picture of width w, from its pixel number n on, after the images were drawn one after the other
abbrev pub painted_all : List Image → ℕ → ℕ → List ℕ → List ℕ
painted_all images w n bytes = fold (λ (s : List ℕ) (image : Image). painted image w n s) bytes images

-- Bytes of a picture of width w, from row `top` on, cut into bands of these heights: all images are drawn on each band by itself.
abbrev pub painted_bands : List Image → ℕ → ℕ → List ℕ → List ℕ → List ℕ
painted_bands images w top [] bytes = []
painted_bands images w top (h ∷ heights) bytes =
    painted_all images w (w * top) (take (3 * (w * h)) bytes)
    ++ painted_bands images w (top + h) heights (drop (3 * (w * h)) bytes)

-- However the rows of a canvas are cut into bands, the bands together are the canvas on which the images were drawn.
abbrev pub BandsMakeThePicture : Type 0
BandsMakeThePicture = (c : CanvasValue) (images : List Image) (heights : List ℕ) → length c.bytes ≡ 3 * (c.w * c.h) → sum heights ≡ c.h
    → (record c { bytes = painted_bands images c.w 0 heights c.bytes }) ≡ fold drawn c images
