use Rattle.std.proofs.Common.{refl}
use Rattle.text_layout.proofs.BitLemmas.{held_bits, magnified_bits}
use Rattle.text_layout.proofs.ScaleLemmas.{held_is_number}
use Rattle.text_layout.proofs.metrics.text_size.Goals as goal

pub returns-clause-value : goal.returns-clause-value
returns-clause-value c =
    let state = c.args.state.now in
    rw (
      magnified_bits c.args.scales.now.letter_scale state.size c.magnified.result (held_is_number state.size c.requires.height) c.magnified.ensures.range c.magnified.ensures.value,
      held_bits state.scale_x (held_is_number state.scale_x c.requires.scale_x),
    )
    refl
