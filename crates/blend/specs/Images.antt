-- Public: images and stencils as contracts see them.
use Rattle.ass_num.specs.Masks.{MaskValue}
use Rattle.blend.specs.declared.image.Image as code
use Rattle.blend.specs.declared.stencil.Stencil.{Stencil}
use Rattle.blend.specs.declared.stencil.Stencil.TheVariants as shows
use Rattle.blend.specs.Blending.{Image, StencilValue, Free, Rect, Drawn}

-- a stencil with its mask in the place of what has it
abbrev pub stencil_value : {M : Type 0} → (M → MaskValue) → Stencil M → StencilValue
stencil_value mask shows.Free = Free
stencil_value mask (shows.Rect x1 y1 x2 y2 inverse) = Rect x1 y1 x2 y2 inverse
stencil_value mask (shows.Drawn over x y inverse) = Drawn (mask over) x y inverse

-- an image with its masks in the place of what has them
abbrev pub image_value : {M : Type 0} → (M → MaskValue) → code.Image M → Image
image_value mask image = record {
  mask = mask image.mask;
  x = image.x;
  y = image.y;
  left = image.left;
  right = image.right;
  edge = image.edge;
  stencil = stencil_value mask image.stencil;
}
