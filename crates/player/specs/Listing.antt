-- Public: the plain images of what events show at an instant.
use Rattle.std.specs.Prelude.{◌≡◌, ℤ, List, ◌++◌, map, Option, Some, None}
use Rattle.ass_events.specs.declared.event.Event.{Event}
use Rattle.ass_num.specs.declared.size.Size.{Size}
use Rattle.ass_script.specs.Scripts.{ScriptValue}
use Rattle.bdf_font.specs.Fonts.{FontValue}
use Rattle.blend.specs.Blending.{Image}
use Rattle.mask_keys.specs.declared.plans.Draw.{Draw}
use Rattle.mask_keys.specs.Pictures.{image_of_draw}
use Rattle.frame_view.specs.declared.view.FrameView.{FrameView}
use Rattle.picture_plan.specs.Pictures.{AreDraws}
use Rattle.plain_images.specs.PlainImages.{ArePlainImages, ArePlainOf}
use Rattle.plain_images.specs.declared.plain.PlainImage.{PlainImage}
use Rattle.player.specs.declared.player.Listed.{Listed}

-- The list has the plain images of the draws of what events show at t, in milliseconds, in a frame: draw by draw, the lowest first.
pub record IsListOf (script : ScriptValue) (fonts : List FontValue) (events : List Event) (t : ℤ) (frame : FrameView) (images : List PlainImage) : Type 0 where
  pub draws : List Draw
  pub are_draws : AreDraws script fonts events t frame draws
  pub are_plain : ArePlainImages frame.size (map (image_of_draw fonts) draws) images

-- The plain images of an image were added to a list.
abbrev pub AddsDraw : Size → Image → List PlainImage → List PlainImage → Type 0
AddsDraw size image old new = (added : List PlainImage) × (new ≡ old ++ added) × ArePlainOf size image added

-- What is listed is of these draws in a frame of this size.
abbrev pub AreListed : Option Listed → Size → List Draw → Type 0
AreListed None size draws = ⊥
AreListed (Some listed) size draws = (listed.size ≡ size) × (listed.plan.draws ≡ draws)
