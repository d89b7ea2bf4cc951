use Rattle.std.specs.Prelude.{◌≡◌, Bool, true, false, refl}
use Rattle.ass_num.specs.declared.size.Size.{Size}
use Rattle.ass_script.specs.declared.script.Header.{Header}
use Rattle.frame_view.specs.FrameScales.{plain_scales, scales_of}
use Rattle.frame_view.specs.FrameViews.{plain_frame}
use Rattle.frame_view.specs.Limits.{whole_letter_scale}
use Rattle.frame_view.proofs.laws.scales_of_a_size.Goals as goal

of_size : (header : Header) (size : Size) (typeset : Bool) → scales_of header (plain_frame size) typeset ≡ plain_scales header size whole_letter_scale
of_size header size true = refl
of_size header size false = refl

pub returns : goal.returns
returns c = of_size
