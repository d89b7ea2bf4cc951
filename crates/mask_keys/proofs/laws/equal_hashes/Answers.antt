use Rattle.std.proofs.Common.{ap}
use Rattle.mask_keys.specs.Equality.{outline_writes, region_writes, mask_writes, composite_writes}
use Rattle.mask_keys.proofs.Equal.{outline_same, region_same, mask_same, composite_same}
use Rattle.mask_keys.proofs.laws.equal_hashes.Goals as goal

pub returns-clause-outlines : goal.returns-clause-outlines
returns-clause-outlines c = λ a b same. ap outline_writes (outline_same a b same)

pub returns-clause-regions : goal.returns-clause-regions
returns-clause-regions c = λ a b same. ap region_writes (region_same a b same)

pub returns-clause-masks : goal.returns-clause-masks
returns-clause-masks c = λ a b same. ap mask_writes (mask_same a b same)

pub returns-clause-composites : goal.returns-clause-composites
returns-clause-composites c = λ a b same. ap composite_writes (composite_same a b same)
