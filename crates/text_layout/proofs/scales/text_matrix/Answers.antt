use Rattle.std.proofs.Common.{◌≡◌, ◌∙◌, ℕ, ap, ap₂, FitsSigned, w64, to_z-of_z, refl, rules}
use Rattle.frame_view.specs.FrameScales.{magnified}
use Rattle.text_layout.specs.Scales.{em_height, text_scale, turn_of}
use Rattle.text_layout.proofs.BitLemmas.{bits_64, held_bits, magnified_bits, scale_bits}
use Rattle.text_layout.proofs.ScaleLemmas.{held_is_number}
use Rattle.text_layout.proofs.scales.text_matrix.Goals as goal

pub returns-clause-value : goal.returns-clause-value
returns-clause-value c =
    let state = c.args.state.now in
    let across = c.args.scales.now.letters.x in
    let down = c.args.scales.now.letters.y in
    let em = c.em_height-em.result in
    let height = magnified c.args.scales.now.letter_scale state.size in
    let size = magnified_bits c.args.scales.now.letter_scale state.size c.magnified-size.result (held_is_number state.size c.requires.height) c.magnified-size.ensures.range c.magnified-size.ensures.value in
    let ux : bits_64 c.text_scale.result ≡ text_scale height state.scale_x across.pixels across.units (em_height c.args.font.now) =
    scale_bits _ c.text_scale.ensures.range ∙ c.text_scale.ensures.value
    ∙ ap₂ (λ a b. text_scale a b across.pixels across.units em) size (held_bits state.scale_x (held_is_number state.scale_x c.requires.scale_x))
    ∙ ap (λ (n : ℕ). text_scale height state.scale_x across.pixels across.units n) c.em_height-em.ensures.value in
    let uy : bits_64 c.text_scale-2.result ≡ text_scale height state.scale_y down.pixels down.units (em_height c.args.font.now) =
    scale_bits _ c.text_scale-2.ensures.range ∙ c.text_scale-2.ensures.value
    ∙ ap₂ (λ a b. text_scale a b down.pixels down.units em) size (held_bits state.scale_y (held_is_number state.scale_y c.requires.scale_y))
    ∙ ap (λ (n : ℕ). text_scale height state.scale_y down.pixels down.units n) c.em_height-em.ensures.value in
    let fa : FitsSigned w64 state.angle = search rules in
    let ft : FitsSigned w64 c.turn_of.result = search rules in
    let turn = to_z-of_z ft ∙ c.turn_of.ensures ∙ ap turn_of (to_z-of_z fa) in
    rw (ux, uy, c.needs_slant.ensures, turn) refl
