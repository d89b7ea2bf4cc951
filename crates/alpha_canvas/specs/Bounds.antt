-- Public: what holds of the layers of a pixel, and of its bytes.
use Rattle.std.specs.Prelude.{◌≡◌, ℕ, ◌+◌, ◌*◌, ◌<◌, ◌≤◌, ◌≢◌, List, length, slice_index}
use Rattle.alpha_canvas.specs.Alpha.{byte_of, fine}
use Rattle.alpha_canvas.specs.declared.layers.Layers.{Layers}
use Rattle.alpha_canvas.specs.declared.pixel.Pixel.{Pixel}

-- Each channel of the colour is at most the alpha, and the alpha is at most opaque.
pub record IsWithinAlpha (p : Layers) : Type 0 where
  pub r : p.r ≤ p.a
  pub g : p.g ≤ p.a
  pub b : p.b ≤ p.a
  pub a : p.a ≤ fine * 255

-- Pixel k has these bytes now, and the others are as before.
pub record IsWritten (k : ℕ) (pixel : Pixel) (old new : List ℕ) : Type 0 where
  pub count : length new ≡ length old
  pub here : (c : ℕ) → c < 4 → slice_index new (4 * k + c) ≡ byte_of pixel c
  pub elsewhere : (m c : ℕ) → m ≢ k → c < 4 → slice_index new (4 * m + c) ≡ slice_index old (4 * m + c)
