use Rattle.std.proofs.Common.{◌≡◌, ◌∙◌, ap, FitsSigned, w64, to_z-of_z, refl, rules}
use Rattle.frame_view.specs.FrameScales.{magnified}
use Rattle.text_layout.specs.Scales.{drawing_scale, turn_of}
use Rattle.text_layout.proofs.BitLemmas.{bits_64, magnified_bits, scale_bits}
use Rattle.text_layout.proofs.ScaleLemmas.{held_is_number}
use Rattle.text_layout.proofs.scales.drawing_matrix.Goals as goal

pub returns-clause-value : goal.returns-clause-value
returns-clause-value c =
    let scales = c.args.scales.now in
    let state = c.args.state.now in
    let across = magnified_bits scales.letter_scale state.scale_x c.magnified-scale_x.result (held_is_number state.scale_x c.requires.scale_x) c.magnified-scale_x.ensures.range c.magnified-scale_x.ensures.value in
    let down = magnified_bits scales.letter_scale state.scale_y c.magnified-scale_y.result (held_is_number state.scale_y c.requires.scale_y) c.magnified-scale_y.ensures.range c.magnified-scale_y.ensures.value in
    let ux : bits_64 c.drawing_scale.result ≡ drawing_scale (magnified scales.letter_scale state.scale_x) state.draw scales.canvas.x.pixels scales.canvas.x.units =
    scale_bits _ c.drawing_scale.ensures.range ∙ c.drawing_scale.ensures.value ∙ ap (λ z. drawing_scale z state.draw scales.canvas.x.pixels scales.canvas.x.units) across in
    let uy : bits_64 c.drawing_scale-2.result ≡ drawing_scale (magnified scales.letter_scale state.scale_y) state.draw scales.canvas.y.pixels scales.canvas.y.units =
    scale_bits _ c.drawing_scale-2.ensures.range ∙ c.drawing_scale-2.ensures.value ∙ ap (λ z. drawing_scale z state.draw scales.canvas.y.pixels scales.canvas.y.units) down in
    let fa : FitsSigned w64 state.angle = search rules in
    let ft : FitsSigned w64 c.turn_of.result = search rules in
    let turn = to_z-of_z ft ∙ c.turn_of.ensures ∙ ap turn_of (to_z-of_z fa) in
    rw (ux, uy, turn) refl
