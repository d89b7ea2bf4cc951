use Rattle.mask_keys.specs.Outlines.{rings_of}
use Rattle.mask_keys.proofs.OutlineLemmas.{rings_outline}
use Rattle.mask_keys.proofs.SampleLemmas.{widened_region-has}
use Rattle.mask_keys.proofs.value_laws.regions_have_their_samples.Goals as goal

pub returns : goal.returns
returns c = λ fonts key valid. widened_region-has key.rx key.ry (rings_of fonts key.outline) valid.rx valid.ry (rings_outline fonts key.outline)
