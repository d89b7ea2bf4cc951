use Rattle.std.proofs.Common.{ap}
use Rattle.mask_keys.proofs.Equal.{outline_same, region_same, mask_same, composite_same}
use Rattle.mask_keys.specs.Values.{composite_value, mask_value, outline_value, region_value}
use Rattle.mask_keys.proofs.value_laws.equal_keys_have_one_value.Goals as goal

pub returns-clause-outlines : goal.returns-clause-outlines
returns-clause-outlines c = λ fonts a b same. ap (outline_value fonts) (outline_same a b same)

pub returns-clause-regions : goal.returns-clause-regions
returns-clause-regions c = λ fonts a b same. ap (region_value fonts) (region_same a b same)

pub returns-clause-masks : goal.returns-clause-masks
returns-clause-masks c = λ fonts a b same. ap (mask_value fonts) (mask_same a b same)

pub returns-clause-composites : goal.returns-clause-composites
returns-clause-composites c = λ fonts a b same. ap (composite_value fonts) (composite_same a b same)
