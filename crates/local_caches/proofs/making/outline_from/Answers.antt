use Rattle.std.proofs.Common.{◌∙◌}
use Rattle.local_caches.proofs.KeyLemmas.{unwidened-value}
use Rattle.local_caches.proofs.making.outline_from.Goals as goal

pub returns : goal.returns
returns c = c.in_ok-new.ensures.ok ∙ (c.in_ok-region.ensures.value ∙ unwidened-value c.args.fonts.now.fonts c.args.key.now c.requires.no_border)
