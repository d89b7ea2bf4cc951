-- Draws and their images on a canvas.
use Rattle.std.proofs.Common.{◌≡◌, List, [], ◌∷◌, map, fold, refl}
use Rattle.bdf_font.specs.Fonts.{FontValue}
use Rattle.blend.specs.Blending.{Image}
use Rattle.blend.specs.Canvases.{CanvasValue, drawn}
use Rattle.mask_keys.specs.declared.plans.Draw.{Draw}
use Rattle.mask_keys.specs.Pictures.{image_of_draw, with_draw}

pub images_drawn : (fonts : List FontValue) (draws : List Draw) (canvas : CanvasValue) → fold drawn canvas (map (image_of_draw fonts) draws) ≡ fold (with_draw fonts) canvas draws
images_drawn fonts [] canvas = refl
images_drawn fonts (draw ∷ draws) canvas = images_drawn fonts draws (with_draw fonts canvas draw)

-- images leave the size of a canvas
pub images_width : (images : List Image) (canvas : CanvasValue) → (fold drawn canvas images).w ≡ canvas.w
images_width [] canvas = refl
images_width (image ∷ images) canvas = images_width images (drawn canvas image)

pub images_height : (images : List Image) (canvas : CanvasValue) → (fold drawn canvas images).h ≡ canvas.h
images_height [] canvas = refl
images_height (image ∷ images) canvas = images_height images (drawn canvas image)

-- and so do draws
pub draws_width : (fonts : List FontValue) (draws : List Draw) (canvas : CanvasValue) → (fold (with_draw fonts) canvas draws).w ≡ canvas.w
draws_width fonts [] canvas = refl
draws_width fonts (draw ∷ draws) canvas = draws_width fonts draws (with_draw fonts canvas draw)

pub draws_height : (fonts : List FontValue) (draws : List Draw) (canvas : CanvasValue) → (fold (with_draw fonts) canvas draws).h ≡ canvas.h
draws_height fonts [] canvas = refl
draws_height fonts (draw ∷ draws) canvas = draws_height fonts draws (with_draw fonts canvas draw)
