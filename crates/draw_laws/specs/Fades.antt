-- Public: an event that is faded out.
-- (Aegisub tag reference, "\fad", "\alpha": an alpha of 255 is wholly transparent.)
use Rattle.std.specs.Prelude.{◌≡◌, List, All, ℤ}
use Rattle.ass_events.specs.declared.event.Event.{Event}
use Rattle.ass_script.specs.Scripts.{ScriptValue}
use Rattle.bdf_font.specs.Fonts.{FontValue}
use Rattle.event_draws.specs.MovedDraws.{AreMovedDraws}
use Rattle.frame_view.specs.declared.view.FrameView.{FrameView}
use Rattle.mask_keys.specs.declared.plans.Draw.{Draw}

-- Both colours of the draw are wholly transparent.
pub record IsTransparent (draw : Draw) : Type 0 where
  pub left : draw.left.a ≡ 255
  pub right : draw.right.a ≡ 255

-- Where a fade of 255 shows an event, none of its draws leaves anything.
abbrev pub FadedEventsAreTransparent : Type 0
FadedEventsAreTransparent =
    (script : ScriptValue) (fonts : List FontValue) (event : Event) (t : ℤ) (frame : FrameView) (shift : ℤ) (draws : List Draw)
    (drawn : AreMovedDraws script fonts event t frame shift draws) → drawn.view.fade ≡ 255 → All IsTransparent draws
