-- Public: what a picture with alpha makes of a background, beside painting on it.
use Rattle.std.specs.Prelude.{◌≡◌, ℕ, zero, suc, ◌+◌, ◌*◌, ◌/◌, ◌<◌, ◌≤◌, List, length, map, fold, slice_index, All}
use Rattle.blend.specs.Blending.{Image, Tint, tint_at}
use Rattle.blend.specs.Canvases.{CanvasValue, drawn}
use Rattle.alpha_canvas.specs.Alpha.{byte_of, formed_pixel, layers_at}
use Rattle.alpha_canvas.specs.Nearness.{Layer, IsLayer, DifferByAtMost, depth_of, exactly_on, over_byte, rounded}
use Rattle.alpha_canvas.specs.declared.pixel.AlphaForm.{AlphaForm}

-- channel c of the colour of a tint: red, green or blue
abbrev pub tint_channel : Tint → ℕ → ℕ
tint_channel t zero = t.colour.r
tint_channel t (suc zero) = t.colour.g
tint_channel t (suc (suc c)) = t.colour.b

-- the layers that images make on channel c of pixel (i, j)
abbrev pub channel_layers : List Image → ℕ → ℕ → ℕ → List Layer
channel_layers images i j c = map (λ (image : Image). record { over = tint_channel (tint_at image i j) c; weight = (tint_at image i j).weight }) images

-- channel c of pixel (i, j) of a canvas
abbrev pub canvas_byte : CanvasValue → ℕ → ℕ → ℕ → ℕ
canvas_byte canvas i j c = slice_index canvas.bytes (3 * (canvas.w * j + i) + c)

-- the same after the picture of images with alpha, in this form, was laid over the canvas
abbrev pub byte_over : AlphaForm → CanvasValue → List Image → ℕ → ℕ → ℕ → ℕ
byte_over form canvas images i j c =
    let p = formed_pixel form (layers_at images i j) in
    over_byte form (canvas_byte canvas i j c) (byte_of p c) p.a

-- Over any background a picture with alpha differs in each channel by at most one from painting the images on it exactly, rounded once;
-- and from a canvas that they are drawn on, which rounds at each image, by at most one, and one more for each two images that show at the
-- pixel without hiding all below them.
abbrev pub OverIsNear : Type 0
OverIsNear = (form : AlphaForm) (canvas : CanvasValue) (images : List Image) (i j c : ℕ) → length canvas.bytes ≡ 3 * (canvas.w * canvas.h)
    → i < canvas.w → j < canvas.h → c < 3 → canvas_byte canvas i j c ≤ 255 → All IsLayer (channel_layers images i j c)
    → DifferByAtMost 1 (rounded (exactly_on (canvas_byte canvas i j c) (channel_layers images i j c))) (byte_over form canvas images i j c)
    × DifferByAtMost (1 + depth_of (channel_layers images i j c) / 2) (canvas_byte (fold drawn canvas images) i j c) (byte_over form canvas images i j c)
    × (byte_over form canvas images i j c ≤ 255)
