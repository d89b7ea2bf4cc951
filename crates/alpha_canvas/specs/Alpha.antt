-- Public: pictures with alpha. Images are painted over nothing, and each pixel has its colour and its alpha (docs/PICTURES.md).
use Rattle.std.specs.Prelude.{◌≡◌, ℕ, zero, suc, ◌+◌, ◌*◌, ◌/◌, ◌<◌, ◌==◌, if◌then◌else◌, List, length, fold, slice_index}
use Rattle.blend.specs.Blending.{Image, Tint, blended, tint_at}
use Rattle.alpha_canvas.specs.declared.layers.Layers.{Layers}
use Rattle.alpha_canvas.specs.declared.pixel.Pixel.{Pixel}
use Rattle.alpha_canvas.specs.declared.pixel.AlphaForm.{AlphaForm}
use Rattle.alpha_canvas.specs.declared.pixel.AlphaForm.TheVariants as form

-- the steps of a 255th in which channels are held while images are painted
abbrev pub fine : ℕ
fine = 16777216

-- a pixel on which nothing was painted
abbrev pub clear : Layers
clear = record { r = 0; g = 0; b = 0; a = 0 }

-- A pixel under a tint (the over operator): each channel is blended as on a canvas, but in fine steps. Alpha is a channel too, of
-- which each colour has the most.
abbrev pub under : Layers → Tint → Layers
under p t = record {
  r = blended p.r (fine * t.colour.r) t.weight;
  g = blended p.g (fine * t.colour.g) t.weight;
  b = blended p.b (fine * t.colour.b) t.weight;
  a = blended p.a (fine * 255) t.weight;
}

-- what images make of pixel (i, j), the lowest first
abbrev pub layers_at : List Image → ℕ → ℕ → Layers
layers_at images i j = fold (λ (p : Layers) (image : Image). under p (tint_at image i j)) clear images

-- n / d to the nearest
abbrev pub to_nearest : ℕ → ℕ → ℕ
to_nearest n d = (n + d / 2) / d

-- a channel by itself, in 255ths: the part of the alpha that it has. Where nothing shows it is 0.
abbrev pub straight_channel : ℕ → ℕ → ℕ
straight_channel channel alpha = if alpha == 0 then 0 else to_nearest (255 * channel) alpha

-- straight alpha: the colour by itself
abbrev pub straight : Layers → Pixel
straight p = record { r = straight_channel p.r p.a; g = straight_channel p.g p.a; b = straight_channel p.b p.a; a = to_nearest p.a fine }

-- premultiplied alpha: the colour times the alpha
abbrev pub premultiplied : Layers → Pixel
premultiplied p = record { r = to_nearest p.r fine; g = to_nearest p.g fine; b = to_nearest p.b fine; a = to_nearest p.a fine }

abbrev pub formed_pixel : AlphaForm → Layers → Pixel
formed_pixel form.Straight p = straight p
formed_pixel form.Premultiplied p = premultiplied p

-- the bytes of a pixel by number: red, green, blue and alpha
abbrev pub byte_of : Pixel → ℕ → ℕ
byte_of p zero = p.r
byte_of p (suc zero) = p.g
byte_of p (suc (suc zero)) = p.b
byte_of p (suc (suc (suc c))) = p.a

-- The bytes are so many pixels, each the one that f gives at its number.
pub record ArePixels (f : ℕ → Pixel) (n : ℕ) (bytes : List ℕ) : Type 0 where
  pub count : length bytes ≡ 4 * n
  pub each : (k c : ℕ) → k < n → c < 4 → slice_index bytes (4 * k + c) ≡ byte_of (f k) c

-- The bytes are rows of the picture of the images, h of w pixels each, from row `top` on.
pub record AreAlphaRows (form : AlphaForm) (images : List Image) (w top h : ℕ) (bytes : List ℕ) : Type 0 where
  pub count : length bytes ≡ 4 * (h * w)
  pub each : (i j c : ℕ) → i < w → j < h → c < 4 → slice_index bytes (4 * (j * w + i) + c) ≡ byte_of (formed_pixel form (layers_at images i (top + j))) c
