use Rattle.std.proofs.Common.{◌≡◌, ℤ, pos, ◌+ℤ◌, ◌-ℤ◌, ◌*ℤ◌, ap, ap₂, arith}
use Rattle.std.proofs.lemmas.Int.{ints}
use Rattle.std.specs.Int.{int_max}
use Rattle.ass_num.specs.declared.geometry.Point.{Point}
use Rattle.ass_num.specs.declared.size.Size.{Size}
use Rattle.ass_script.specs.Scripts.{ScriptValue}
use Rattle.frame_view.specs.FrameScales.{plain_scales}
use Rattle.frame_view.specs.Limits.{whole_letter_scale}
use Rattle.text_layout.specs.declared.anchors.Margins.{Margins}
use Rattle.text_layout.specs.Anchors.{on_ground, whole_pixels, wrapping_width}
use Rattle.text_layout.specs.Scales.{framed, pixel}
use Rattle.text_layout.proofs.laws.stands_on_size.Goals as goal

from_zero : (z : ℤ) → (pos pixel *ℤ pos 0) +ℤ z ≡ z
from_zero z = omega (arith, ints)

none_more : (z : ℤ) → z +ℤ pos 0 ≡ z
none_more z = omega (arith, ints)

places : (script : ScriptValue) (size : Size) (p : Point) → on_ground (plain_scales script.header size whole_letter_scale) p ≡ p
places script size p = ap₂ (λ (x y : ℤ). let q : Point = record { x = x; y = y } in q) (from_zero p.x) (from_zero p.y)

widths : (script : ScriptValue) (size : Size) (margins : Margins) → wrapping_width margins (plain_scales script.header size whole_letter_scale)
    ≡ int_max (framed (whole_pixels ((pos script.header.res_x -ℤ margins.left) -ℤ margins.right)) size.w script.header.res_x) (pos 0)
widths script size margins =
    ap (λ z. int_max z (pos 0)) (none_more (framed (whole_pixels ((pos script.header.res_x -ℤ margins.left) -ℤ margins.right)) size.w script.header.res_x))

pub returns : goal.returns
returns c script size = record { places = places script size; widths = widths script size }
