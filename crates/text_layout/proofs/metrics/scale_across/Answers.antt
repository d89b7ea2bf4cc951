use Rattle.std.proofs.Common.{◌∙◌, ℕ, ap, ap₂}
use Rattle.text_layout.specs.Scales.{text_scale}
use Rattle.text_layout.proofs.BitLemmas.{held_bits, scale_bits}
use Rattle.text_layout.proofs.ScaleLemmas.{held_is_number}
use Rattle.text_layout.proofs.metrics.scale_across.Goals as goal

pub returns-clause-value : goal.returns-clause-value
returns-clause-value c =
    let size = c.args.size.now in
    let across = size.across in
    scale_bits _ c.text_scale.ensures.range ∙ c.text_scale.ensures.value
    ∙ ap₂ (λ a b. text_scale a b across.pixels across.units c.em_height.result) (held_bits size.height (held_is_number size.height c.requires.size.height))
    (held_bits size.scale_x (held_is_number size.scale_x c.requires.size.scale_x))
    ∙ ap (λ (n : ℕ). text_scale size.height size.scale_x across.pixels across.units n) c.em_height.ensures.value
