use Rattle.mask_keys.proofs.Equal.{outlines_decided, regions_decided, masks_decided, composites_decided}
use Rattle.mask_keys.proofs.laws.equal_keys.Goals as goal

pub returns-clause-outlines : goal.returns-clause-outlines
returns-clause-outlines c = outlines_decided

pub returns-clause-regions : goal.returns-clause-regions
returns-clause-regions c = regions_decided

pub returns-clause-masks : goal.returns-clause-masks
returns-clause-masks c = masks_decided

pub returns-clause-composites : goal.returns-clause-composites
returns-clause-composites c = composites_decided
