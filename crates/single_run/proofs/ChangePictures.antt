-- How large pictures are.
use Rattle.std.proofs.Common.{◌≡◌, ℕ, ◌*◌, List, [], fold, ap, sym, ◌∙◌}
use Rattle.ass_num.specs.declared.size.Size.{Size}
use Rattle.bdf_font.specs.Fonts.{FontValue}
use Rattle.blend.specs.Canvases.{CanvasValue, black}
use Rattle.mask_keys.specs.declared.plans.Draw.{Draw}
use Rattle.mask_keys.specs.Pictures.{picture, with_draw}
use Rattle.mask_keys.proofs.DrawnLemmas.{draws_height, draws_width}

-- the bytes of a picture
pub picture_bytes : (fonts : List FontValue) (size : Size) (draws : List Draw) (canvas : CanvasValue) (count : ℕ) → canvas ≡ picture fonts size draws → count ≡ 3 * (canvas.w * canvas.h) → count ≡ 3 * (size.w * size.h)
picture_bytes fonts size draws canvas count is counted =
    let wide : canvas.w ≡ size.w = ap (λ (c : CanvasValue). c.w) is ∙ draws_width fonts draws (black size.w size.h) in
    let high : canvas.h ≡ size.h = ap (λ (c : CanvasValue). c.h) is ∙ draws_height fonts draws (black size.w size.h) in
    counted ∙ ap (λ w. 3 * (w * canvas.h)) wide ∙ ap (λ h. 3 * (size.w * h)) high

-- what is painted on black is the picture
pub painted : (fonts : List FontValue) (size : Size) (draws : List Draw) (old new : CanvasValue) → old ≡ black size.w size.h → new ≡ fold (with_draw fonts) old draws → new ≡ picture fonts size draws
painted fonts size draws old new blank is = is ∙ ap (λ (c : CanvasValue). fold (with_draw fonts) c draws) blank

-- no draws leave the frame black
pub blank_picture : (fonts : List FontValue) (size : Size) (draws : List Draw) (canvas : CanvasValue) → draws ≡ [] → canvas ≡ black size.w size.h → canvas ≡ picture fonts size draws
blank_picture fonts size draws canvas none blank = blank ∙ sym (ap (picture fonts size) none)
