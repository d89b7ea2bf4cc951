use Rattle.cache_kinds.specs.Kinds.{composite_meaning, mask_meaning, region_meaning}
use Rattle.mask_keys.specs.Equality.{equal_composites, equal_masks, equal_regions}
use Rattle.mask_keys.proofs.Equal.{composite_same, mask_same, region_same}
use Rattle.mask_caches.proofs.Holding.{given-again}
use Rattle.mask_caches.proofs.caches.Caches.proof_legal.Goals as goal

pub returns-clause-nothing : goal.returns-clause-nothing
returns-clause-nothing c = λ pass before holds. record {
  regions = given-again equal_regions region_same region_meaning c.args.self.now.regions pass.regions c.args.pass.now.regions before.regions holds.regions c.proof_numbered.ensures c.proof_legal.ensures;
  masks = given-again equal_masks mask_same mask_meaning c.args.self.now.masks pass.masks c.args.pass.now.masks before.masks holds.masks c.proof_numbered-2.ensures c.proof_legal-2.ensures;
  composites = given-again equal_composites composite_same composite_meaning c.args.self.now.composites pass.composites c.args.pass.now.composites before.composites holds.composites c.proof_numbered-3.ensures c.proof_legal-3.ensures;
}
