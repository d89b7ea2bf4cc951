-- Public: rectangles of pixels of a picture, and tints that fall on one of them alone.
use Rattle.std.specs.Prelude.{◌≡◌, ℕ, ℤ, pos, ◌+◌, ◌*◌, ◌+ℤ◌, ◌<◌, ◌≤◌, Bool, true, ◌&&◌, nat_le, nat_lt, if◌then◌else◌, List}
use Rattle.ass_num.specs.Masks.{MaskValue}
use Rattle.ass_num.specs.Coverage.{moved_value}
use Rattle.ass_num.specs.declared.colour.Rgba.{Rgba}
use Rattle.blend.specs.declared.area.Area.{Area}
use Rattle.blend.specs.declared.area.Band.{Band}
use Rattle.blend.specs.declared.placed.Placed.{Placed}
use Rattle.blend.specs.Blending.{Tint, StencilValue, Drawn, in_rect, stencilled, tint_of, tinted, by_number}

-- a placed mask: how many columns and rows it is moved
abbrev pub placed_of : Placed → MaskValue × ℤ × ℤ
placed_of p = (p.mask.now, p.x, p.y)

-- pixel (i, j) lies in the area
abbrev pub in_area : Area → ℕ → ℕ → Bool
in_area a i j = (nat_le a.left i && nat_lt i a.right) && (nat_le a.top j && nat_lt j a.bottom)

-- the bounds of an area are ordered and within those of another
pub record IsPart (part area : Area) : Type 0 where
  pub left : area.left ≤ part.left
  pub columns : part.left ≤ part.right
  pub right : part.right ≤ area.right
  pub top : area.top ≤ part.top
  pub rows : part.top ≤ part.bottom
  pub bottom : part.bottom ≤ area.bottom

-- pixel (i, j) lies in the box of a placed mask
abbrev pub in_moved_box : MaskValue × ℤ × ℤ → ℕ → ℕ → Bool
in_moved_box p i j =
    in_rect (p.0.x +ℤ p.1) (p.0.y +ℤ p.2) (p.0.x +ℤ p.1 +ℤ pos p.0.w) (p.0.y +ℤ p.2 +ℤ pos p.0.h) (pos i) (pos j)

-- the whole area lies in the box of a placed mask
pub record IsAreaCovered (area : Area) (p : MaskValue × ℤ × ℤ) : Type 0 where
  pub covered : (i j : ℕ) → in_area area i j ≡ true → in_moved_box p i j ≡ true

-- the area lies in the band
pub record IsInBand (area : Area) (band : Band) : Type 0 where
  pub columns : area.left ≤ area.right
  pub right : area.right ≤ band.w
  pub top : band.top ≤ area.top
  pub rows : area.top ≤ area.bottom
  pub bottom : area.bottom ≤ band.top + band.h

-- The area is what a band has of the box of a placed mask.
pub record IsMeeting (area : Area) (band : Band) (p : MaskValue × ℤ × ℤ) : Type 0 where
  pub in_band : IsInBand area band
  pub covered : IsAreaCovered area p
  pub whole : (i j : ℕ) → i < band.w → band.top ≤ j → j < band.top + band.h → in_area area i j ≡ in_moved_box p i j

-- no colour
abbrev pub no_tint : Tint
no_tint = record { colour = record { r = 0; g = 0; b = 0; a = 0 }; weight = 0 }

-- the tints of an area's pixels, and none elsewhere
abbrev pub within : Area → (ℕ → ℕ → Tint) → ℕ → ℕ → Tint
within area tint i j = if in_area area i j then tint i j else no_tint

-- the tints, and none on the area
abbrev pub without : Area → (ℕ → ℕ → Tint) → ℕ → ℕ → Tint
without area tint i j = if in_area area i j then no_tint else tint i j

-- what falls on pixel (i, j) of a placed mask in one colour under a stencil
abbrev pub tints : Rgba → MaskValue × ℤ × ℤ → StencilValue → ℕ → ℕ → Tint
tints colour p stencil i j = tint_of colour (stencilled stencil i j (moved_value p (pos i) (pos j)))

-- a placed mask as a stencil
abbrev pub placed_stencil : MaskValue × ℤ × ℤ → Bool → StencilValue
placed_stencil p inverse = Drawn p.0 p.1 p.2 inverse

-- the bytes of a band under tints
abbrev pub with_tints : Band → (ℕ → ℕ → Tint) → List ℕ → List ℕ
with_tints band tint bytes = tinted (by_number band.w tint) (band.w * band.top) bytes
