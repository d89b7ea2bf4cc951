use Rattle.made_values.proofs.SumLemmas.{summed_mask-sums}
use Rattle.made_values.proofs.laws.summed_masks_are_sums.Goals as goal

pub returns : goal.returns
returns c = summed_mask-sums
