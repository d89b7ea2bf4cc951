use Rattle.std.proofs.Common.{◌∙◌, ℤ, pos, ◌-ℤ◌, ap, FitsSigned, w64, to_z-of_z, rules, arith}
use Rattle.std.proofs.lemmas.Int.{ints}
use Rattle.ass_num.specs.Limits.{IsWithin}
use Rattle.frame_view.specs.FrameViews.{IsLayoutSide}
use Rattle.text_layout.specs.Limits.{max_script_length}
use Rattle.text_layout.specs.Anchors.{across}
use Rattle.text_layout.proofs.AnchorLemmas.{inner_bits, inner_within, pixels_bits, pixels_within}
use Rattle.text_layout.proofs.anchors.inner_width.Goals as goal

script_length_fits : (z : ℤ) → IsWithin max_script_length z → FitsSigned w64 z
script_length_fits z h = omega (arith, ints)

pub overflow_mul-inner : goal.overflow_mul-inner
overflow_mul-inner c =
    let units = c.args.scales.now.canvas.x.units in
    let left = c.args.margins.now.left in
    let right = c.args.margins.now.right in
    let side : IsLayoutSide units = (c.requires.scales.canvas.x.some, c.requires.scales.canvas.x.units) in
    rw (inner_bits units left right c.from-units.result c.from.result c.from-2.result side c.requires.margins.left c.requires.margins.right c.from-units.ensures c.from.ensures c.from-2.ensures)
    (script_length_fits _ (pixels_within _ (inner_within units left right side c.requires.margins.left c.requires.margins.right)))

pub returns-clause-value : goal.returns-clause-value
returns-clause-value c =
    let units = c.args.scales.now.canvas.x.units in
    let left = c.args.margins.now.left in
    let right = c.args.margins.now.right in
    let side : IsLayoutSide units = (c.requires.scales.canvas.x.some, c.requires.scales.canvas.x.units) in
    let inner =
    pixels_bits ((pos units -ℤ left) -ℤ right) _ (inner_within units left right side c.requires.margins.left c.requires.margins.right)
    (inner_bits units left right c.from-units.result c.from.result c.from-2.result side c.requires.margins.left c.requires.margins.right c.from-units.ensures c.from.ensures c.from-2.ensures) in
    let fits : FitsSigned w64 c.across.result = search rules in
    to_z-of_z fits ∙ c.across.ensures.value ∙ ap (across c.args.scales.now) inner
