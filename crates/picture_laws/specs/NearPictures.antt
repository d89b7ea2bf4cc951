-- Public: the picture with alpha of events, laid over black, beside their picture.
use Rattle.std.specs.Prelude.{ℕ, ℤ, ◌+◌, ◌*◌, ◌/◌, ◌<◌, List, map, slice_index, All}
use Rattle.alpha_canvas.specs.Laws.{canvas_byte, channel_layers}
use Rattle.alpha_canvas.specs.Nearness.{DifferByAtMost, IsLayer, Layer, depth_of, over_byte}
use Rattle.alpha_canvas.specs.declared.pixel.AlphaForm.{AlphaForm}
use Rattle.ass_events.specs.declared.event.Event.{Event}
use Rattle.ass_script.specs.Scripts.{ScriptValue}
use Rattle.bdf_font.specs.Fonts.{FontValue}
use Rattle.blend.specs.Canvases.{CanvasValue}
use Rattle.frame_view.specs.declared.view.FrameView.{FrameView}
use Rattle.mask_keys.specs.declared.plans.Draw.{Draw}
use Rattle.mask_keys.specs.Pictures.{image_of_draw}
use Rattle.picture_plan.specs.AlphaPictures.{IsAlphaPictureAt}
use Rattle.picture_plan.specs.Pictures.{AreDraws, IsPictureAt}

-- channel c of pixel (i, j) of a picture with alpha of width w, laid over black
abbrev pub byte_over_black : AlphaForm → ℕ → List ℕ → ℕ → ℕ → ℕ → ℕ
byte_over_black form w bytes i j c = over_byte form 0 (slice_index bytes (4 * (j * w + i) + c)) (slice_index bytes (4 * (j * w + i) + 3))

-- the layers that draws make on channel c of pixel (i, j)
abbrev pub layers_of_draws : List FontValue → List Draw → ℕ → ℕ → ℕ → List Layer
layers_of_draws fonts draws i j c = channel_layers (map (image_of_draw fonts) draws) i j c

-- Where the layers that draws make on a channel are bytes, it differs from that of the canvas by at most one, and one more for each two of them that show there without hiding
-- all below them.
pub record IsNearPicture (form : AlphaForm) (fonts : List FontValue) (draws : List Draw) (canvas : CanvasValue) (bytes : List ℕ) : Type 0 where
  pub channels : (i j c : ℕ) → i < canvas.w → j < canvas.h → c < 3 → All IsLayer (layers_of_draws fonts draws i j c)
      → DifferByAtMost (1 + depth_of (layers_of_draws fonts draws i j c) / 2) (canvas_byte canvas i j c) (byte_over_black form canvas.w bytes i j c)

-- The picture with alpha of events at an instant is near to their picture.
abbrev pub AlphaPicturesAreNear : ScriptValue → List FontValue → Type 0
AlphaPicturesAreNear script fonts =
    (form : AlphaForm) (events : List Event) (t : ℤ) (frame : FrameView) (canvas : CanvasValue) (bytes : List ℕ)
    → IsPictureAt script fonts events t frame canvas → IsAlphaPictureAt form script fonts events t frame bytes
    → (draws : List Draw) × AreDraws script fonts events t frame draws × IsNearPicture form fonts draws canvas bytes
