-- Public: the picture of a list of draws: from black, one image after the other, each with the masks of its keys.
use Rattle.std.specs.Prelude.{List, fold}
use Rattle.ass_num.specs.declared.size.Size.{Size}
use Rattle.bdf_font.specs.Fonts.{FontValue}
use Rattle.blend.specs.Blending.{Image, StencilValue, Free, Rect, Drawn}
use Rattle.blend.specs.Canvases.{CanvasValue, black, drawn}
use Rattle.blend.specs.declared.image.Image as made
use Rattle.blend.specs.declared.stencil.Stencil.{Stencil}
use Rattle.mask_keys.specs.declared.plans.Clip.{Clip}
use Rattle.mask_keys.specs.declared.plans.Clip.TheVariants as clip
use Rattle.mask_keys.specs.declared.plans.Draw.{Draw}
use Rattle.mask_keys.specs.Values.{composite_value}

-- a clip with the mask of its key
abbrev pub stencil_of : List FontValue → Clip → StencilValue
stencil_of fonts clip.Free = Free
stencil_of fonts (clip.Rect x1 y1 x2 y2 inverse) = Rect x1 y1 x2 y2 inverse
stencil_of fonts (clip.Drawn key x y inverse) = Drawn (composite_value fonts key) x y inverse

-- a draw with the masks of its keys
abbrev pub image_of_draw : List FontValue → Draw → Image
image_of_draw fonts draw = record {
  mask = composite_value fonts draw.key;
  x = draw.x;
  y = draw.y;
  left = draw.left;
  right = draw.right;
  edge = draw.edge;
  stencil = stencil_of fonts draw.clip;
}

-- a draw as an image, with what has its mask and with its clip as a stencil
abbrev pub image_with : {M : Type 0} → Draw → M → Stencil M → made.Image M
image_with draw mask stencil = record {
  mask = mask;
  x = draw.x;
  y = draw.y;
  left = draw.left;
  right = draw.right;
  edge = draw.edge;
  stencil = stencil;
}

-- a canvas after a draw
abbrev pub with_draw : List FontValue → CanvasValue → Draw → CanvasValue
with_draw fonts canvas draw = drawn canvas (image_of_draw fonts draw)

-- The picture of a size and a list of draws.
abbrev pub picture : List FontValue → Size → List Draw → CanvasValue
picture fonts size draws = fold (with_draw fonts) (black size.w size.h) draws
