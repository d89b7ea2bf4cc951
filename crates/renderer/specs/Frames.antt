-- Public: frames of histories.
use Rattle.std.specs.Prelude.{◌≡◌, ℤ, List, length, Result, Ok, Err}
use Rattle.ass_events.specs.Histories.{Entry, live}
use Rattle.ass_num.specs.declared.size.Size.{Size}
use Rattle.ass_script.specs.Scripts.{ScriptValue}
use Rattle.bdf_font.specs.Fonts.{FontValue}
use Rattle.renderer.specs.declared.frames.Frame.{Frame}
use Rattle.renderer.specs.ShownFrames.{FrameImage, ShowsDraws}
use Rattle.mask_keys.specs.declared.plans.Draw.{Draw}
use Rattle.frame_view.specs.FrameViews.{plain_frame}
use Rattle.picture_plan.specs.Pictures.{AreDraws}
use Rattle.track_history.specs.declared.scene.Scene.{Scene}

-- The frame shows the whole history at t: how many entries the history has, the instant and the size, and the draws of what is live of it, each with the masks of its keys.
pub record IsFrameOf (script : ScriptValue) (fonts : List FontValue) (history : List Entry) (t : ℤ) (size : Size) (frame : Frame) : Type 0 where
  pub n : frame.n ≡ length history
  pub instant : frame.t ≡ t
  pub size_is : frame.size ≡ size
  pub draws : List Draw
  pub are_draws : AreDraws script fonts (live history) t (plain_frame size) draws
  pub images : ShowsDraws fonts draws frame

-- the frame of a scene in a size with these images, or why there are none
abbrev pub frame_with : {E : Type 0} → Scene → Size → Result (List FrameImage) E → Result Frame E
frame_with scene size (Ok images) = Ok (record { n = scene.n; t = scene.t; size = size; images = images })
frame_with scene size (Err refused) = Err refused
