use Rattle.std.proofs.Common.{◌≤◌, arith}
use Rattle.std.proofs.Math.Pow.{pow_mono}
use Rattle.override_tags.specs.Limits.{max_tag_scale}
use Rattle.text_layout.proofs.scales.level_parts.Goals as goal

pub returns-clause-most : goal.returns-clause-most
returns-clause-most c =
    let few : c.saturating_sub.result ≤ max_tag_scale = omega (arith, c.saturating_sub.ensures) in
    rw c.pow.ensures (pow_mono few)
