use Rattle.cache_kinds.specs.Kinds.{composite_meaning}
use Rattle.mask_keys.specs.Equality.{equal_composites}
use Rattle.mask_caches.proofs.Adding.{adds-stays}
use Rattle.mask_caches.proofs.Free.{given-free}
use Rattle.mask_caches.proofs.caches.Caches.give_back.Goals as goal

pub returns-clause-pass : goal.returns-clause-pass
returns-clause-pass g c = record {
  regions = c.requires.pass.regions;
  masks = c.requires.pass.masks;
  composites = adds-stays equal_composites composite_meaning c.args.self.now.composites c.args.pass.composites c.give_back-composites.result _ c.requires.pass.composites c.give_back-composites.ensures.steps;
  free = record {
    regions = c.requires.pass.free.regions;
    masks = c.requires.pass.free.masks;
    composites = given-free equal_composites composite_meaning c.args.self.now.composites c.args.lease c.args.pass.composites c.give_back-composites.result c.give_back-composites.ensures.steps c.requires.pass.free.composites;
  };
}
