-- How many bytes the pixels of pictures have.
use Rattle.std.proofs.Common.{◌≡◌, ℕ, ◌*◌, List, fold, length, ap, ◌∙◌, arith}
use Rattle.ass_num.specs.declared.size.Size.{Size}
use Rattle.alpha_canvas.specs.Alpha.{AreAlphaRows}
use Rattle.alpha_canvas.specs.declared.pixel.AlphaForm.TheVariants.{Straight}
use Rattle.bdf_font.specs.Fonts.{FontValue}
use Rattle.blend.specs.Blending.{Image}
use Rattle.blend.specs.Canvases.{CanvasValue, black}
use Rattle.mask_keys.proofs.DrawnLemmas.{draws_height, draws_width}
use Rattle.mask_keys.specs.declared.plans.Draw.{Draw}
use Rattle.mask_keys.specs.Pictures.{picture, with_draw}
use Rattle.still_images.specs.Boxes.{HasPixels}

-- what is painted on black is the picture
pub painted : (fonts : List FontValue) (size : Size) (draws : List Draw) (old new : CanvasValue) (bytes : List ℕ) → old ≡ black size.w size.h → new ≡ fold (with_draw fonts) old draws →
    bytes ≡ new.bytes → bytes ≡ (picture fonts size draws).bytes
painted fonts size draws old new bytes blank is copied =
    copied ∙ ap (λ (c : CanvasValue). c.bytes) (is ∙ ap (λ (c : CanvasValue). fold (with_draw fonts) c draws) blank)

-- the bytes of such a picture
pub picture_size : (fonts : List FontValue) (size : Size) (draws : List Draw) (old new : CanvasValue) (bytes : List ℕ) → old ≡ black size.w size.h → new ≡ fold (with_draw fonts) old draws →
    bytes ≡ new.bytes → length new.bytes ≡ 3 * (new.w * new.h) → HasPixels 3 size bytes
picture_size fonts size draws old new bytes blank is copied counted =
    let wide : new.w ≡ size.w = ap (λ (c : CanvasValue). c.w) is ∙ (draws_width fonts draws old ∙ ap (λ (c : CanvasValue). c.w) blank) in
    let high : new.h ≡ size.h = ap (λ (c : CanvasValue). c.h) is ∙ (draws_height fonts draws old ∙ ap (λ (c : CanvasValue). c.h) blank) in
    ap (λ (b : List ℕ). length b) copied ∙ (counted ∙ (ap (λ w. 3 * (w * new.h)) wide ∙ ap (λ h. 3 * (size.w * h)) high))

-- the bytes of a picture with alpha
pub alpha_size : (images : List Image) (size : Size) (bytes : List ℕ) → AreAlphaRows Straight images size.w 0 size.h bytes → HasPixels 4 size bytes
alpha_size images size bytes rows = omega (arith, rows.count)
