-- Public: the pictures with alpha that events show (docs/PICTURES.md).
use Rattle.std.specs.Prelude.{ℕ, ℤ, List, map}
use Rattle.alpha_canvas.specs.Alpha.{AreAlphaRows}
use Rattle.alpha_canvas.specs.declared.pixel.AlphaForm.{AlphaForm}
use Rattle.ass_events.specs.declared.event.Event.{Event}
use Rattle.ass_script.specs.Scripts.{ScriptValue}
use Rattle.bdf_font.specs.Fonts.{FontValue}
use Rattle.frame_view.specs.declared.view.FrameView.{FrameView}
use Rattle.mask_keys.specs.declared.plans.Draw.{Draw}
use Rattle.mask_keys.specs.Pictures.{image_of_draw}
use Rattle.picture_plan.specs.Pictures.{AreDraws}

-- These bytes are the picture with alpha that a set of events shows at t, in milliseconds: its draws, painted over nothing.
pub record IsAlphaPictureAt (form : AlphaForm) (script : ScriptValue) (fonts : List FontValue) (events : List Event) (t : ℤ) (frame : FrameView) (bytes : List ℕ) : Type 0 where
  pub draws : List Draw
  pub are_draws : AreDraws script fonts events t frame draws
  pub rows : AreAlphaRows form (map (image_of_draw fonts) draws) frame.size.w 0 frame.size.h bytes
