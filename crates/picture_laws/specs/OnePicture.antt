-- Public: the draws of a set of events at an instant are the only ones, and so is the picture.
use Rattle.std.specs.Prelude.{◌≡◌, List, ℤ}
use Rattle.frame_view.specs.declared.view.FrameView.{FrameView}
use Rattle.ass_events.specs.declared.event.Event.{Event}
use Rattle.ass_script.specs.Scripts.{ScriptValue}
use Rattle.bdf_font.specs.Fonts.{FontValue}
use Rattle.blend.specs.Canvases.{CanvasValue}
use Rattle.mask_keys.specs.declared.plans.Draw.{Draw}
use Rattle.picture_plan.specs.Pictures.{AreDraws, IsPictureAt}

-- Two lists that are the draws of the same events at the same instant are one.
abbrev pub HaveOneListOfDraws : ScriptValue → List FontValue → Type 0
HaveOneListOfDraws script fonts =
    (events : List Event) (t : ℤ) (frame : FrameView) (a b : List Draw) → AreDraws script fonts events t frame a → AreDraws script fonts events t frame b → a ≡ b

-- Two canvases that are the picture of the same events at the same instant are one.
abbrev pub HaveOnePicture : ScriptValue → List FontValue → Type 0
HaveOnePicture script fonts =
    (events : List Event) (t : ℤ) (frame : FrameView) (a b : CanvasValue) → IsPictureAt script fonts events t frame a → IsPictureAt script fonts events t frame b → a ≡ b
