-- Public: layers on one channel of a pixel, painted exactly and as canvases paint them.
use Rattle.std.specs.Prelude.{ℕ, ◌+◌, ◌-◌, ◌*◌, ◌/◌, ◌≤◌, ◌==◌, if◌then◌else◌, List, fold}
use Rattle.blend.specs.Blending.{blended, by_255}
use Rattle.alpha_canvas.specs.Alpha.{fine, straight_channel, to_nearest}
use Rattle.alpha_canvas.specs.declared.pixel.AlphaForm.{AlphaForm}
use Rattle.alpha_canvas.specs.declared.pixel.AlphaForm.TheVariants as form

-- what a layer has of the channel, and its weight in 255ths
pub record Layer : Type 0 where
  pub over : ℕ
  pub weight : ℕ

-- Both are bytes.
pub record IsLayer (layer : Layer) : Type 0 where
  pub over : layer.over ≤ 255
  pub weight : layer.weight ≤ 255

-- the channel of a background that lies under the layers, as a canvas has it: rounded at each layer
abbrev pub painted_on : ℕ → List Layer → ℕ
painted_on under layers = fold (λ (v : ℕ) (layer : Layer). blended v layer.over layer.weight) under layers

-- a fraction
pub record Fraction : Type 0 where
  pub parts : ℕ
  pub unit : ℕ

-- the same channel with no rounding
abbrev pub exactly_under : Fraction → Layer → Fraction
exactly_under v layer = record {
  parts = v.parts * (255 - layer.weight) + v.unit * (layer.over * layer.weight);
  unit = 255 * v.unit;
}

abbrev pub exactly_on : ℕ → List Layer → Fraction
exactly_on under layers = fold exactly_under (record { parts = under; unit = 1 }) layers

-- a fraction to the nearest
abbrev pub rounded : Fraction → ℕ
rounded v = to_nearest v.parts v.unit

-- How many layers change a channel without hiding what lies below, above the last that hides all.
abbrev pub deeper : ℕ → Layer → ℕ
deeper depth layer = if layer.weight == 0 then depth else (if layer.weight == 255 then 0 else depth + 1)

abbrev pub depth_of : List Layer → ℕ
depth_of layers = fold deeper 0 layers

-- the channel and the alpha of the layers by themselves, in fine steps
abbrev pub fine_channel : List Layer → ℕ
fine_channel layers = fold (λ (v : ℕ) (layer : Layer). blended v (fine * layer.over) layer.weight) 0 layers

abbrev pub fine_alpha : List Layer → ℕ
fine_alpha layers = fold (λ (v : ℕ) (layer : Layer). blended v (fine * 255) layer.weight) 0 layers

-- a pixel of this form over a background, in one channel
abbrev pub over_byte : AlphaForm → ℕ → ℕ → ℕ → ℕ
over_byte form.Straight background channel alpha = blended background channel alpha
over_byte form.Premultiplied background channel alpha = channel + by_255 (background * (255 - alpha))

-- a channel of layers by themselves, in this form, and their alpha
abbrev pub formed_channel : AlphaForm → List Layer → ℕ
formed_channel form.Straight layers = straight_channel (fine_channel layers) (fine_alpha layers)
formed_channel form.Premultiplied layers = to_nearest (fine_channel layers) fine

abbrev pub coarse_alpha : List Layer → ℕ
coarse_alpha layers = to_nearest (fine_alpha layers) fine

-- The numbers differ by at most so much.
pub record DifferByAtMost (most a b : ℕ) : Type 0 where
  pub above : a ≤ b + most
  pub below : b ≤ a + most

-- A byte is near to layers on a background: at most one off the layers that are painted on it exactly and rounded once; and at most one,
-- and one more for each two layers that don't hide all below them, off the layers that a canvas paints on it.
pub record IsNearLayers (layers : List Layer) (background byte : ℕ) : Type 0 where
  pub exact : DifferByAtMost 1 (rounded (exactly_on background layers)) byte
  pub canvas : DifferByAtMost (1 + depth_of layers / 2) (painted_on background layers) byte
  pub small : byte ≤ 255
