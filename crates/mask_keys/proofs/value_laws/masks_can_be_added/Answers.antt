use Rattle.mask_keys.specs.Keys.{region_key}
use Rattle.mask_keys.specs.Values.{region_value}
use Rattle.mask_keys.proofs.ReachLemmas.{mask_bytes, mask_reach}
use Rattle.mask_keys.proofs.value_laws.masks_can_be_added.Goals as goal

pub returns-clause-near : goal.returns-clause-near
returns-clause-near c = λ fonts key ranges. mask_reach key (region_value fonts (region_key key)) ranges

pub returns-clause-bytes : goal.returns-clause-bytes
returns-clause-bytes c = λ fonts key. mask_bytes key (region_value fonts (region_key key))
