-- Public: events have draws and a picture at each instant.
use Rattle.std.specs.Prelude.{◌≤◌, ℤ, List, length, All, Contains}
use Rattle.ass_num.specs.Limits.{max_text_bytes}
use Rattle.ass_events.specs.Histories.{HaveOwnOrders}
use Rattle.ass_events.specs.Ranges.{IsEvent}
use Rattle.ass_events.specs.declared.event.Event.{Event}
use Rattle.ass_script.specs.Scripts.{ScriptValue}
use Rattle.bdf_font.specs.Fonts.{FontValue}
use Rattle.blend.specs.Canvases.{CanvasValue}
use Rattle.frame_view.specs.declared.view.FrameView.{FrameView}
use Rattle.mask_keys.specs.declared.plans.Draw.{Draw}
use Rattle.picture_plan.specs.Pictures.{AreDraws, IsPictureAt}

-- Events that chunks give, with texts that aren't too long and with different ReadOrders.
pub record AreDrawable (events : List Event) : Type 0 where
  pub each : All IsEvent events
  pub texts : All (λ (event : Event). length event.text ≤ max_text_bytes) events
  pub orders : HaveOwnOrders events

-- Such events have draws at each instant on each frame,
abbrev pub HaveDraws : ScriptValue → List FontValue → Type 0
HaveDraws script fonts =
    (events : List Event) (t : ℤ) (frame : FrameView) → AreDrawable events → (draws : List Draw) × AreDraws script fonts events t frame draws

-- and a picture,
abbrev pub HaveAPicture : ScriptValue → List FontValue → Type 0
HaveAPicture script fonts =
    (events : List Event) (t : ℤ) (frame : FrameView) → AreDrawable events → (canvas : CanvasValue) × IsPictureAt script fonts events t frame canvas

-- and so have events that are all among them, however often and in whatever order they are listed.
abbrev pub SomeHaveAPicture : ScriptValue → List FontValue → Type 0
SomeHaveAPicture script fonts =
    (all some : List Event) (t : ℤ) (frame : FrameView) → AreDrawable all → All (Contains all) some → (canvas : CanvasValue) × IsPictureAt script fonts some t frame canvas
