-- A pixel of a canvas and a pixel with alpha, by the layers on their channels.
use Rattle.std.proofs.Common.{◌≡◌, ℕ, zero, suc, ◌+◌, ◌*◌, ◌/◌, ◌%◌, ◌<◌, ◌≤◌, List, [], ◌∷◌, length, fold, get_or, refl, sym, ap, subst, ◌∙◌, arith}
use Rattle.std.proofs.lemmas.Nat.{div-mul-add, mod-mul-add, rows}
use Rattle.blend.specs.Blending.{Image, Tint, blended, by_number, tint_at, tinted}
use Rattle.blend.specs.Canvases.{CanvasValue, drawn}
use Rattle.blend.proofs.TintedLemmas.{length-tinted}
use Rattle.alpha_canvas.specs.Alpha.{byte_of, clear, fine, formed_pixel, layers_at, straight_channel, to_nearest, under}
use Rattle.alpha_canvas.specs.Laws.{OverIsNear, byte_over, canvas_byte, channel_layers, tint_channel}
use Rattle.alpha_canvas.specs.Nearness.{DifferByAtMost, Layer, depth_of, coarse_alpha, exactly_on, formed_channel, over_byte, painted_on, rounded}
use Rattle.alpha_canvas.specs.declared.pixel.AlphaForm.{AlphaForm}
use Rattle.alpha_canvas.specs.declared.pixel.AlphaForm.TheVariants as form
use Rattle.alpha_canvas.specs.declared.layers.Layers.{Layers}
use Rattle.alpha_canvas.proofs.LayerLemmas.{channel-near}

-- a byte of tinted pixels
tinted-at : (tint : ℕ → Tint) (n k c : ℕ) (s : List ℕ) → c < 3 → 3 * k + 3 ≤ length s
    → get_or (tinted tint n s) (3 * k + c) 0 ≡ blended (get_or s (3 * k + c) 0) (tint_channel (tint (n + k)) c) (tint (n + k)).weight
tinted-at tint n k c [] small fits = absurd (omega arith)
tinted-at tint n k c (a ∷ []) small fits = absurd (omega arith)
tinted-at tint n k c (a ∷ b ∷ []) small fits = absurd (omega arith)
tinted-at tint n zero c (r ∷ g ∷ b ∷ s) small fits =
    let at : 3 * zero + c ≡ c = omega arith in
    let number : n + zero ≡ n = omega arith in
    rw (at, number) (first c small)
  where
    first : (c : ℕ) → c < 3 → get_or (tinted tint n (r ∷ g ∷ b ∷ s)) c 0 ≡ blended (get_or (r ∷ g ∷ b ∷ s) c 0) (tint_channel (tint n) c) (tint n).weight
    first zero small = refl
    first (suc zero) small = refl
    first (suc (suc zero)) small = refl
    first (suc (suc (suc c))) small = absurd (omega arith)
tinted-at tint n (suc k) c (r ∷ g ∷ b ∷ s) small fits =
    let at : 3 * suc k + c ≡ suc (suc (suc (3 * k + c))) = omega arith in
    let number : n + suc k ≡ n + 1 + k = omega arith in
    rw (at, number) (tinted-at tint (n + 1) k c s small (omega arith))

-- a byte of a canvas on which images were drawn
drawn-at : (images : List Image) (canvas : CanvasValue) (i j c : ℕ) → length canvas.bytes ≡ 3 * (canvas.w * canvas.h) → canvas.w * j + i < canvas.w * canvas.h → i < canvas.w → c < 3
    → canvas_byte (fold drawn canvas images) i j c ≡ painted_on (canvas_byte canvas i j c) (channel_layers images i j c)
drawn-at [] canvas i j c len inside wide small = refl
drawn-at (image ∷ images) canvas i j c len inside wide small =
    let w = canvas.w in
    let tint : ℕ → Tint = by_number canvas.w (tint_at image) in
    let more = drawn-at images (drawn canvas image) i j c (length-tinted tint 0 canvas.bytes ∙ len) inside wide small in
    let at = tinted-at tint 0 (canvas.w * j + i) c canvas.bytes small (omega arith) in
    let number : 0 + (canvas.w * j + i) ≡ j * canvas.w + i = omega arith in
    let row : (j * canvas.w + i) / canvas.w ≡ j = div-mul-add j canvas.w i wide in
    let column : (j * canvas.w + i) % canvas.w ≡ i = mod-mul-add j canvas.w i wide in
    let here : canvas_byte (drawn canvas image) i j c ≡ blended (canvas_byte canvas i j c) (tint_channel (tint_at image i j) c) (tint_at image i j).weight =
    rw (number, row, column) at at in
    more ∙ ap (λ (v : ℕ). painted_on v (channel_layers images i j c)) here

-- ---- the channels of a pixel with alpha

red : (images : List Image) (i j : ℕ) (p : Layers) → (fold (λ (q : Layers) (image : Image). under q (tint_at image i j)) p images).r
    ≡ fold (λ (v : ℕ) (layer : Layer). blended v (fine * layer.over) layer.weight) p.r (channel_layers images i j 0)
red [] i j p = refl
red (image ∷ images) i j p = red images i j (under p (tint_at image i j))

green : (images : List Image) (i j : ℕ) (p : Layers) → (fold (λ (q : Layers) (image : Image). under q (tint_at image i j)) p images).g
    ≡ fold (λ (v : ℕ) (layer : Layer). blended v (fine * layer.over) layer.weight) p.g (channel_layers images i j 1)
green [] i j p = refl
green (image ∷ images) i j p = green images i j (under p (tint_at image i j))

blue : (images : List Image) (i j : ℕ) (p : Layers) → (fold (λ (q : Layers) (image : Image). under q (tint_at image i j)) p images).b
    ≡ fold (λ (v : ℕ) (layer : Layer). blended v (fine * layer.over) layer.weight) p.b (channel_layers images i j 2)
blue [] i j p = refl
blue (image ∷ images) i j p = blue images i j (under p (tint_at image i j))

alpha : (images : List Image) (i j c : ℕ) (p : Layers) → (fold (λ (q : Layers) (image : Image). under q (tint_at image i j)) p images).a
    ≡ fold (λ (v : ℕ) (layer : Layer). blended v (fine * 255) layer.weight) p.a (channel_layers images i j c)
alpha [] i j c p = refl
alpha (image ∷ images) i j c p = alpha images i j c (under p (tint_at image i j))

same-channel : (c d a b : ℕ) → c ≡ d → a ≡ b → straight_channel c a ≡ straight_channel d b
same-channel c d a b p q = rw (p, q) refl

byte-layers : (f : AlphaForm) (images : List Image) (i j c : ℕ) → c < 3 → byte_of (formed_pixel f (layers_at images i j)) c ≡ formed_channel f (channel_layers images i j c)
byte-layers form.Straight images i j zero small = same-channel _ _ _ _ (red images i j clear) (alpha images i j 0 clear)
byte-layers form.Straight images i j (suc zero) small = same-channel _ _ _ _ (green images i j clear) (alpha images i j 1 clear)
byte-layers form.Straight images i j (suc (suc zero)) small = same-channel _ _ _ _ (blue images i j clear) (alpha images i j 2 clear)
byte-layers form.Premultiplied images i j zero small = ap (λ (k : ℕ). to_nearest k fine) (red images i j clear)
byte-layers form.Premultiplied images i j (suc zero) small = ap (λ (k : ℕ). to_nearest k fine) (green images i j clear)
byte-layers form.Premultiplied images i j (suc (suc zero)) small = ap (λ (k : ℕ). to_nearest k fine) (blue images i j clear)
byte-layers f images i j (suc (suc (suc c))) small = absurd (omega arith)

alpha-layers : (f : AlphaForm) (images : List Image) (i j c : ℕ) → (formed_pixel f (layers_at images i j)).a ≡ coarse_alpha (channel_layers images i j c)
alpha-layers form.Straight images i j c = ap (λ (k : ℕ). to_nearest k fine) (alpha images i j c clear)
alpha-layers form.Premultiplied images i j c = ap (λ (k : ℕ). to_nearest k fine) (alpha images i j c clear)

same-over : (f : AlphaForm) (v s t a b : ℕ) → s ≡ t → a ≡ b → over_byte f v s a ≡ over_byte f v t b
same-over f v s t a b p q = rw (p, q) refl

pub over_is_near : OverIsNear
over_is_near f canvas images i j c len wide high small byte all =
    let v = canvas_byte canvas i j c in
    let layers = channel_layers images i j c in
    let near = channel-near f layers v byte all in
    let over : over_byte f v (formed_channel f layers) (coarse_alpha layers) ≡ byte_over f canvas images i j c =
    sym (same-over f v _ _ _ _ (byte-layers f images i j c small) (alpha-layers f images i j c)) in
    let inside : canvas.w * j + i < canvas.w * canvas.h = within canvas.w canvas.h i j wide high in
    let painted = sym (drawn-at images canvas i j c len inside wide small) in (
      subst (λ (k : ℕ). DifferByAtMost 1 (rounded (exactly_on v layers)) k) over near.exact,
      subst (λ (k : ℕ). DifferByAtMost (1 + depth_of layers / 2) (canvas_byte (fold drawn canvas images) i j c) k) over
          (subst (λ (k : ℕ). DifferByAtMost (1 + depth_of layers / 2) k (over_byte f v (formed_channel f layers) (coarse_alpha layers))) painted near.canvas),
      subst (λ (k : ℕ). k ≤ 255) over near.small,
    )
  where
    within : (w h i j : ℕ) → i < w → j < h → w * j + i < w * h
    within w h i j p q = grind (arith, rows)
