-- Public: what drawing an image does to the pixels of a picture (docs/PICTURES.md).
use Rattle.std.specs.Prelude.{ℕ, ℤ, pos, ◌+◌, ◌-◌, ◌*◌, ◌/◌, ◌%◌, Bool, ◌&&◌, int_lt, int_le, List, ◌∷◌, if◌then◌else◌}
use Rattle.ass_num.specs.Masks.{MaskValue}
use Rattle.ass_num.specs.Coverage.{moved_value}
use Rattle.ass_num.specs.declared.colour.Rgba.{Rgba}

-- A stencil: nothing is hidden; or what lies outside a rectangle, whose left and top bounds belong to it and whose
-- right and bottom bounds don't; or what a moved mask doesn't cover. At `true` the inside is hidden instead.
pub data StencilValue : Type 0 where
  Free : StencilValue
  Rect : ℤ → ℤ → ℤ → ℤ → Bool → StencilValue
  Drawn : MaskValue → ℤ → ℤ → Bool → StencilValue

-- An image to be drawn: the mask and how far it is moved, the colour of the columns left of the edge and of those from it on, and the stencil.
pub record Image : Type 0 where
  pub mask : MaskValue
  pub x : ℤ
  pub y : ℤ
  pub left : Rgba
  pub right : Rgba
  pub edge : ℤ
  pub stencil : StencilValue

-- a product of two numbers in 255ths, rounded
abbrev pub by_255 : ℕ → ℕ
by_255 v = (v + 127) / 255

abbrev pub in_rect : ℤ → ℤ → ℤ → ℤ → ℤ → ℤ → Bool
in_rect x1 y1 x2 y2 i j = (int_le x1 i && int_lt i x2) && (int_le y1 j && int_lt j y2)

-- what the stencil leaves of the coverage m of pixel (i, j)
abbrev pub stencilled : StencilValue → ℕ → ℕ → ℕ → ℕ
stencilled Free i j m = m
stencilled (Rect x1 y1 x2 y2 inverse) i j m =
    if in_rect x1 y1 x2 y2 (pos i) (pos j) then (if inverse then 0 else m) else (if inverse then m else 0)
stencilled (Drawn c x y inverse) i j m =
    by_255 (m * (if inverse then 255 - moved_value (c, x, y) (pos i) (pos j) else moved_value (c, x, y) (pos i) (pos j)))

-- A colour that falls on a pixel, and its weight in 255ths. The colour's own alpha is in the weight already.
pub record Tint : Type 0 where
  pub colour : Rgba
  pub weight : ℕ

-- a colour at a coverage: its alpha of 0 is opaque, and 255 invisible
abbrev pub tint_of : Rgba → ℕ → Tint
tint_of colour m = record { colour = colour; weight = by_255 (m * (255 - colour.a)) }

-- what falls on pixel (i, j), in column i and row j
abbrev pub tint_at : Image → ℕ → ℕ → Tint
tint_at image i j =
    tint_of (if int_lt (pos i) image.edge then image.left else image.right)
    (stencilled image.stencil i j (moved_value (image.mask, image.x, image.y) (pos i) (pos j)))

-- a channel of a pixel under a channel of a colour of this weight
abbrev pub blended : ℕ → ℕ → ℕ → ℕ
blended under over weight = by_255 (under * (255 - weight) + over * weight)

-- Pixels of three bytes (red, green, blue) under the tints of their numbers, where the first pixel has number n.
abbrev pub tinted : (ℕ → Tint) → ℕ → List ℕ → List ℕ
tinted tint n (r ∷ g ∷ b ∷ rest) =
    blended r (tint n).colour.r (tint n).weight ∷ blended g (tint n).colour.g (tint n).weight
    ∷ blended b (tint n).colour.b (tint n).weight ∷ tinted tint (n + 1) rest
tinted tint n rest = rest

-- the tints of the pixels by number, where pixels are counted row by row in rows of w pixels
abbrev pub by_number : ℕ → (ℕ → ℕ → Tint) → ℕ → Tint
by_number w tint n = tint (n % w) (n / w)

-- The bytes of a picture of width w, from its pixel number n on, after an image was drawn.
abbrev pub painted : Image → ℕ → ℕ → List ℕ → List ℕ
painted image w n bytes = tinted (by_number w (tint_at image)) n bytes
