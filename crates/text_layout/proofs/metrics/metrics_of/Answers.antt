use Rattle.std.proofs.Common.{◌≡◌, ◌∙◌, ap, ap₂, FitsSigned, w32, w64, to_z-of_z, refl, rules}
use Rattle.ass_num.specs.declared.geometry.Matrix.{Matrix}
use Rattle.text_layout.specs.Metrics.{held_extent, scaled_pixels, spacing_of}
use Rattle.text_layout.specs.Scales.{text_matrix}
use Rattle.text_layout.proofs.BitLemmas.{bits_64, held_bits, magnified_bits, scale_bits}
use Rattle.text_layout.proofs.ScaleLemmas.{held_is_number}
use Rattle.text_layout.proofs.metrics.metrics_of.Goals as goal
use mir.Syntax.{w128}

pub returns-clause-value : goal.returns-clause-value
returns-clause-value c =
    let scales = c.args.scales.now in
    let m = text_matrix scales c.args.font.now c.args.state.now in
    let matrix = c.text_matrix-m.ensures.value in
    let ux : bits_64 c.text_matrix-m.result.ux ≡ m.ux = scale_bits _ c.text_matrix-m.ensures.range.ux ∙ ap (λ (t : Matrix). t.ux) matrix in
    let uy : bits_64 c.text_matrix-m.result.uy ≡ m.uy = scale_bits _ c.text_matrix-m.ensures.range.uy ∙ ap (λ (t : Matrix). t.uy) matrix in
    let f1 : FitsSigned w32 c.ascent.result = search rules in
    let f2 : FitsSigned w128 c.scaled_pixels.result = search rules in
    let f3 : FitsSigned w64 c.held_extent.result = search rules in
    let g1 : FitsSigned w32 c.descent.result = search rules in
    let g2 : FitsSigned w128 c.scaled_pixels-2.result = search rules in
    let g3 : FitsSigned w64 c.held_extent-2.result = search rules in
    let h : FitsSigned w64 c.spacing_of.result = search rules in
    let ascent =
    to_z-of_z f3 ∙ c.held_extent.ensures.value
    ∙ ap held_extent (to_z-of_z f2 ∙ c.scaled_pixels.ensures.value ∙ ap₂ scaled_pixels (to_z-of_z f1 ∙ c.ascent.ensures) uy) in
    let descent =
    to_z-of_z g3 ∙ c.held_extent-2.ensures.value
    ∙ ap held_extent (to_z-of_z g2 ∙ c.scaled_pixels-2.ensures.value ∙ ap₂ scaled_pixels (to_z-of_z g1 ∙ c.descent.ensures) uy) in
    let spacing =
    to_z-of_z h ∙ c.spacing_of.ensures.value
    ∙ ap₂ (λ a b. spacing_of a b scales.canvas.x.pixels scales.canvas.x.units)
    (magnified_bits scales.letter_scale c.args.state.now.spacing c.magnified-spacing.result c.requires.spacing c.magnified-spacing.ensures.range c.magnified-spacing.ensures.value)
    (held_bits c.args.state.now.scale_x (held_is_number c.args.state.now.scale_x c.requires.scale_x)) in
    rw (c.text_size.ensures.value, ux, ascent, descent, spacing, c.drawing_matrix.ensures.value) refl
