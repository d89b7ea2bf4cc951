use Rattle.cache_kinds.specs.Kinds.{composite_meaning, mask_meaning, region_meaning}
use Rattle.mask_keys.specs.Equality.{equal_composites, equal_masks, equal_regions}
use Rattle.mask_caches.proofs.Cells.{joined-of}
use Rattle.mask_caches.proofs.Free.{gave-free}
use Rattle.mask_caches.proofs.caches.Caches.join.Goals as goal

pub returns-clause-pass : goal.returns-clause-pass
returns-clause-pass c = record {
  regions = joined-of c.args.self.now.regions c.args.pass.regions c.args.other.regions c.join-regions.result c.requires.passes.0.regions c.join-regions.ensures.pass;
  masks = joined-of c.args.self.now.masks c.args.pass.masks c.args.other.masks c.join-masks.result c.requires.passes.0.masks c.join-masks.ensures.pass;
  composites = joined-of c.args.self.now.composites c.args.pass.composites c.args.other.composites c.join-composites.result c.requires.passes.0.composites c.join-composites.ensures.pass;
  free = record {
    regions = gave-free equal_regions region_meaning c.args.self.now.regions c.args.pass.regions c.join-regions.result c.join-regions.ensures.own c.requires.passes.0.free.regions;
    masks = gave-free equal_masks mask_meaning c.args.self.now.masks c.args.pass.masks c.join-masks.result c.join-masks.ensures.own c.requires.passes.0.free.masks;
    composites = gave-free equal_composites composite_meaning c.args.self.now.composites c.args.pass.composites c.join-composites.result c.join-composites.ensures.own c.requires.passes.0.free.composites;
  };
}
