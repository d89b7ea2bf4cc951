use Rattle.std.proofs.Common.{ap}
use Rattle.mask_keys.specs.Masks.{summed_mask}
use Rattle.made_values.proofs.KeyLemmas.{parts_placeable, placed_are}
use Rattle.made_values.proofs.laws.parts_make_their_composite.Goals as goal

pub returns-clause-value : goal.returns-clause-value
returns-clause-value c = λ fonts key. ap summed_mask (placed_are fonts key.parts)

pub returns-clause-masks : goal.returns-clause-masks
returns-clause-masks c = parts_placeable
