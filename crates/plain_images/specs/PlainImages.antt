-- Public: images as plain ones: each a mask that lies in the frame, of one colour, hidden nowhere.
use Rattle.std.specs.Prelude.{◌≡◌, ℕ, pos, ◌+ℤ◌, ◌≤ℤ◌, ◌*◌, ◌<◌, true, false, not, List, [], ◌∷◌, ◌++◌, length, map, fold, All}
use Rattle.std.specs.List.{filter}
use Rattle.ass_num.specs.Coverage.{moved_value}
use Rattle.ass_num.specs.Masks.{is_mask, value_at}
use Rattle.ass_num.specs.declared.colour.Rgba.{Rgba}
use Rattle.ass_num.specs.declared.size.Size.{Size}
use Rattle.blend.specs.Blending.{Image, StencilValue, Free, Rect, Drawn, stencilled}
use Rattle.blend.specs.Canvases.{CanvasValue, drawn}
use Rattle.plain_images.specs.Panes.{in_pane, is_empty_pane, frame_pane, box_pane, both_panes, pane_before, pane_from, panes_around}
use Rattle.plain_images.specs.declared.panes.Pane.{Pane}
use Rattle.plain_images.specs.declared.plain.PlainImage.{PlainImage}

-- ---- painting them

-- a plain image as drawing takes it: its mask where it is, its colour left and right of any edge, and nothing hidden
abbrev pub image_of_plain : PlainImage → Image
image_of_plain plain = record {
  mask = plain.mask;
  x = pos 0;
  y = pos 0;
  left = plain.colour;
  right = plain.colour;
  edge = pos 0;
  stencil = Free;
}

-- a canvas after plain images were drawn on it, one after the other
abbrev pub with_plain_images : CanvasValue → List PlainImage → CanvasValue
with_plain_images canvas plains = fold (λ (c : CanvasValue) (plain : PlainImage). drawn c (image_of_plain plain)) canvas plains

-- ---- which they are

-- how much an image covers of pixel (i, j), as its stencil leaves it
abbrev pub shown_at : Image → ℕ → ℕ → ℕ
shown_at image i j = stencilled image.stencil i j (moved_value (image.mask, image.x, image.y) (pos i) (pos j))

-- Where a stencil leaves something of a pane: a drawn clip shows in the box of its mask alone, and its inverse anywhere.
abbrev pub stencil_panes : StencilValue → Pane → List Pane
stencil_panes Free pane = pane ∷ []
stencil_panes (Rect x1 y1 x2 y2 false) pane = both_panes pane (record { x1 = x1; y1 = y1; x2 = x2; y2 = y2 }) ∷ []
stencil_panes (Rect x1 y1 x2 y2 true) pane = panes_around pane (both_panes pane (record { x1 = x1; y1 = y1; x2 = x2; y2 = y2 }))
stencil_panes (Drawn mask x y false) pane = both_panes pane (box_pane mask x y) ∷ []
stencil_panes (Drawn mask x y true) pane = pane ∷ []

-- what of the box of an image's mask lies in the frame
abbrev pub image_pane : Size → Image → Pane
image_pane size image = both_panes (frame_pane size) (box_pane image.mask image.x image.y)

-- Panes in a colour, without those that are empty.
abbrev pub in_colour : Rgba → List Pane → List (Pane × Rgba)
in_colour colour panes = map (λ pane. (pane, colour)) (filter (λ pane. not (is_empty_pane pane)) panes)

-- Where an image shows in a frame of a size, and in which colour: left of its edge, and then from it on.
abbrev pub coloured_panes : Size → Image → List (Pane × Rgba)
coloured_panes size image =
    in_colour image.left (stencil_panes image.stencil (pane_before (image_pane size image) image.edge))
    ++ in_colour image.right (stencil_panes image.stencil (pane_from (image_pane size image) image.edge))

-- The plain image is what the image shows of a pane, in this colour: its box is the pane.
pub record IsPaneOf (image : Image) (pane : Pane) (shown : Rgba) (plain : PlainImage) : Type 0 where
  pub colour : plain.colour ≡ shown
  pub left : plain.mask.x ≡ pane.x1
  pub top : plain.mask.y ≡ pane.y1
  pub right : (plain.mask.x +ℤ pos plain.mask.w) ≡ pane.x2
  pub bottom : (plain.mask.y +ℤ pos plain.mask.h) ≡ pane.y2
  pub whole : is_mask plain.mask ≡ true
  pub values : (i j : ℕ) → in_pane pane (pos i) (pos j) ≡ true → value_at plain.mask (pos i) (pos j) ≡ shown_at image i j

-- The plain images are what the image shows of these panes, one of each, in order.
abbrev pub ArePanesOf : Image → List (Pane × Rgba) → List PlainImage → Type 0
ArePanesOf image [] [] = Unit {0}
ArePanesOf image [] (plain ∷ plains) = ⊥
ArePanesOf image (pane ∷ panes) [] = ⊥
ArePanesOf image (pane ∷ panes) (plain ∷ plains) = IsPaneOf image pane.0 pane.1 plain × ArePanesOf image panes plains

-- The plain images of an image in a frame of a size.
abbrev pub ArePlainOf : Size → Image → List PlainImage → Type 0
ArePlainOf size image plains = ArePanesOf image (coloured_panes size image) plains

-- These are the plain images of images, one image after the other.
pub data ArePlainImages (size : Size) : List Image → List PlainImage → Type 0 where
  None : ArePlainImages size [] []
  Next : (image : Image) (above : List Image) (plains rest : List PlainImage)
      → ArePlainOf size image plains → ArePlainImages size above rest → ArePlainImages size (image ∷ above) (plains ++ rest)

-- ---- laws

-- The plain images, drawn with nothing hidden, make what the images do, on any canvas of the frame's size.
abbrev pub PlainImagesMakeThePicture : Type 0
PlainImagesMakeThePicture =
    (size : Size) (canvas : CanvasValue) (images : List Image) (plains : List PlainImage)
    → canvas.w ≡ size.w → canvas.h ≡ size.h → length canvas.bytes ≡ 3 * (canvas.w * canvas.h)
    → ArePlainImages size images plains → with_plain_images canvas plains ≡ fold drawn canvas images

-- A plain image has pixels, and they lie in the frame.
pub record LiesInFrame (size : Size) (plain : PlainImage) : Type 0 where
  pub wide : 0 < plain.mask.w
  pub high : 0 < plain.mask.h
  pub left : pos 0 ≤ℤ plain.mask.x
  pub top : pos 0 ≤ℤ plain.mask.y
  pub right : (plain.mask.x +ℤ pos plain.mask.w) ≤ℤ pos size.w
  pub bottom : (plain.mask.y +ℤ pos plain.mask.h) ≤ℤ pos size.h

abbrev pub PlainImagesLieInTheFrame : Type 0
PlainImagesLieInTheFrame = (size : Size) (images : List Image) (plains : List PlainImage) → ArePlainImages size images plains → All (LiesInFrame size) plains
