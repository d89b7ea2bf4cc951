-- Public: the quads of a glyph. They are told of plain numbers, in pixels of the bitmap; b grows downwards from the baseline.
use Rattle.std.specs.Prelude.{ℕ, Bool, if◌then◌else◌, ℤ, pos, neg_ℤ, ◌+ℤ◌, ◌-ℤ◌, ◌*ℤ◌, List, [], ◌∷◌, flat_map}
use Rattle.std.specs.List.{range_with_len}
use Rattle.ass_num.specs.Bitmaps.{pixel_is_set}
use Rattle.ass_num.specs.Floor.{floor_div}
use Rattle.ass_num.specs.Limits.{one_16}
use Rattle.ass_num.specs.declared.geometry.Point.{Point}
use Rattle.ass_num.specs.declared.geometry.Matrix.{Matrix}
use Rattle.outline_points.specs.Placing.{outline_point}

-- a bitmap of w by h pixels, whose lower left corner lies at (x, y) from the pen, y upwards
pub record Bitmap : Type 0 where
  pub w : ℕ
  pub h : ℕ
  pub x : ℤ
  pub y : ℤ
  pub bits : List ℕ

-- how far italic moves a point to the right: by a quarter of its height
abbrev pub slant : Bool → ℤ → ℤ
slant italic y = if italic then floor_div (neg_ℤ y) (pos 4) else pos 0

-- (a, b) scaled and slanted
abbrev pub scaled_pixel : Matrix → ℤ → ℤ → Point
scaled_pixel m a b =
    let y = floor_div (b *ℤ m.uy) (pos one_16) in
    record { x = floor_div (a *ℤ m.ux) (pos one_16) +ℤ slant m.italic y; y = y }

-- and turned and held
abbrev pub glyph_point : Matrix → ℤ → ℤ → Point
glyph_point m a b = outline_point m.turn (scaled_pixel m a b)

-- a rectangle of the bitmap's plane, from its upper left corner clockwise
abbrev pub quad : Matrix → ℤ → ℤ → ℤ → ℤ → List Point
quad m left top right bottom = glyph_point m left top ∷ glyph_point m right top ∷ glyph_point m right bottom ∷ glyph_point m left bottom ∷ []

-- the pixel whose upper left corner is (a, b)
abbrev pub pixel_quad : Matrix → ℤ → ℤ → List Point
pixel_quad m a b = quad m a b (a +ℤ pos 1) (b +ℤ pos 1)

-- a set pixel, and where the glyph is bold once more one pixel to the right
abbrev pub set_quads : Matrix → Bool → ℤ → ℤ → List (List Point)
set_quads m bold a b = pixel_quad m a b ∷ (if bold then pixel_quad m (a +ℤ pos 1) b ∷ [] else [])

abbrev pub pixel_quads : Matrix → Bool → Bitmap → ℕ → ℕ → List (List Point)
pixel_quads m bold bitmap j i =
    if pixel_is_set bitmap.w bitmap.bits i j
    then set_quads m bold (bitmap.x +ℤ pos i) (neg_ℤ ((bitmap.y +ℤ pos bitmap.h) -ℤ pos j))
    else []

-- the set pixels of row j from the left
abbrev pub row_quads : Matrix → Bool → Bitmap → ℕ → List (List Point)
row_quads m bold bitmap j = flat_map (pixel_quads m bold bitmap j) (range_with_len 0 bitmap.w)

-- the set pixels of all rows from the top
abbrev pub bitmap_quads : Matrix → Bool → Bitmap → List (List Point)
bitmap_quads m bold bitmap = flat_map (row_quads m bold bitmap) (range_with_len 0 bitmap.h)

-- a bar of this height, from the pen as far as the glyph advances it
abbrev pub bar_quad : Matrix → ℤ → ℤ → ℤ → List Point
bar_quad m advance top size = quad m (pos 0) top advance (top +ℤ size)
