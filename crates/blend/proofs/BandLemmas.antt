-- Lemmas on pictures that are drawn in bands.
use Rattle.std.proofs.Common.{◌≡◌, ℕ, ◌+◌, ◌*◌, List, [], ◌∷◌, ◌++◌, length, take, drop, fold, sum, refl, sym, ap, ◌∙◌, arith, length-take, length-drop}
use Rattle.std.proofs.lemmas.List.{take-append-drop}
use Rattle.std.proofs.Math.Nat.{mul-add}
use Rattle.std.proofs.lemmas.List.Sums.{sum_by-cons}
use Rattle.blend.specs.Blending.{Image, tint_at, painted, by_number}
use Rattle.blend.specs.Canvases.{CanvasValue, drawn}
use Rattle.blend.specs.Bands.{painted_all, painted_bands, BandsMakeThePicture}
use Rattle.blend.proofs.TintedLemmas.{length-tinted, tinted-append}

-- two lots of pixels, one after the other
painted_all-append : (images : List Image) (w n c : ℕ) (s t : List ℕ) → length s ≡ 3 * c → painted_all images w n (s ++ t) ≡ painted_all images w n s ++ painted_all images w (n + c) t
painted_all-append [] w n c s t e = refl
painted_all-append (image ∷ images) w n c s t e =
    ap (painted_all images w n) (tinted-append (by_number w (tint_at image)) n c s t e)
    ∙ painted_all-append images w n c (painted image w n s) (painted image w (n + c) t) (length-tinted (by_number w (tint_at image)) n s ∙ e)

-- images on a canvas
fold-drawn : (images : List Image) (c : CanvasValue) → (record c { bytes = painted_all images c.w 0 c.bytes }) ≡ fold drawn c images
fold-drawn [] c = refl
fold-drawn (image ∷ images) c = fold-drawn images (drawn c image)

painted_all-none : (images : List Image) (w n : ℕ) → painted_all images w n [] ≡ []
painted_all-none [] w n = refl
painted_all-none (image ∷ images) w n = painted_all-none images w n

-- the bands from a row on
bands-are : (images : List Image) (w top : ℕ) (heights s : List ℕ) → length s ≡ 3 * (w * sum heights) → painted_bands images w top heights s ≡ painted_all images w (w * top) s
bands-are images w top [] [] e = sym (painted_all-none images w (w * top))
bands-are images w top [] (a ∷ s) e = absurd (omega arith)
bands-are images w top (h ∷ heights) s e =
    let front : List ℕ = take (3 * (w * h)) s in
    let back : List ℕ = drop (3 * (w * h)) s in
    let more : length s ≡ 3 * (w * h) + 3 * (w * sum heights) = e ∙ (ap (λ k. 3 * (w * k)) (sum_by-cons (λ k. k) h heights) ∙ omega (arith, mul-add w h (sum heights))) in
    let front_len : length front ≡ 3 * (w * h) = omega (arith, length-take (3 * (w * h)) s) in
    let back_len : length back ≡ 3 * (w * sum heights) = omega (arith, length-drop (3 * (w * h)) s) in
    let place : w * (top + h) ≡ w * top + w * h = mul-add w top h in
    ap (λ (t : List ℕ). painted_all images w (w * top) front ++ t) (bands-are images w (top + h) heights back back_len ∙ ap (λ k. painted_all images w k back) place)
    ∙ (sym (painted_all-append images w (w * top) (w * h) front back front_len) ∙ ap (painted_all images w (w * top)) (take-append-drop (3 * (w * h)) s))

pub bands_make_the_picture : BandsMakeThePicture
bands_make_the_picture c images heights len rows =
    let zero_is : c.w * 0 ≡ 0 = omega arith in
    let bytes : painted_bands images c.w 0 heights c.bytes ≡ painted_all images c.w 0 c.bytes =
    bands-are images c.w 0 heights c.bytes (rw rows len) ∙ ap (λ k. painted_all images c.w k c.bytes) zero_is in
    ap (λ (s : List ℕ). let p : CanvasValue = record c { bytes = s } in p) bytes ∙ fold-drawn images c
