-- Inner: what is added to a list of plain images.
use Rattle.std.specs.Prelude.{◌≡◌, ℤ, pos, Bool, List, ◌++◌}
use Rattle.ass_num.specs.Masks.{MaskValue}
use Rattle.ass_num.specs.declared.colour.Rgba.{Rgba}
use Rattle.blend.specs.Blending.{Image, StencilValue, Drawn, Rect}
use Rattle.plain_images.specs.PlainImages.{ArePanesOf, in_colour}
use Rattle.plain_images.specs.declared.panes.Pane.{Pane}
use Rattle.plain_images.specs.declared.plain.PlainImage.{PlainImage}

-- a moved mask in one colour under a stencil, as an image
abbrev pub image_in : MaskValue × ℤ × ℤ → Rgba → StencilValue → Image
image_in moved colour stencil = record { mask = moved.0; x = moved.1; y = moved.2; left = colour; right = colour; edge = pos 0; stencil = stencil }

-- Behind the old plain images there is what a moved mask in one colour shows under a stencil of these panes, in order.
abbrev pub AddsPanes : MaskValue × ℤ × ℤ → StencilValue → List Pane → Rgba → List PlainImage → List PlainImage → Type 0
AddsPanes moved stencil panes colour old new =
    (added : List PlainImage) × (new ≡ old ++ added) × ArePanesOf (image_in moved colour stencil) (in_colour colour panes) added

-- a rectangle as a stencil, and a moved mask as one
abbrev pub rect_stencil : Pane → Bool → StencilValue
rect_stencil rect inverse = Rect rect.x1 rect.y1 rect.x2 rect.y2 inverse

abbrev pub mask_stencil : MaskValue × ℤ × ℤ → Bool → StencilValue
mask_stencil over inverse = Drawn over.0 over.1 over.2 inverse
