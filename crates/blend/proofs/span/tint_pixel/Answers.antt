use Rattle.blend.proofs.TintedLemmas.{tinted-pixel}
use Rattle.blend.proofs.span.tint_pixel.Goals as goal

pub returns : goal.returns
returns c = tinted-pixel (record { colour = c.args.colour; weight = c.args.weight }) _ _ _ _ c.requires c.blended.ensures c.blended-2.ensures c.blended-3.ensures
