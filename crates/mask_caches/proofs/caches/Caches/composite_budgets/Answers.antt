use Rattle.std.proofs.Common.{refl}
use Rattle.cache_kinds.specs.Kinds.{composite_meaning, mask_meaning, region_meaning}
use Rattle.mask_keys.specs.Equality.{equal_composites, equal_masks, equal_regions}
use Rattle.mask_caches.proofs.Adding.{adds-each-none, adds-none}
use Rattle.mask_caches.proofs.Cells.{each-of}
use Rattle.mask_caches.proofs.Free.{free-before}
use Rattle.mask_caches.proofs.Holding.{each-much, much-itself}
use Rattle.mask_caches.proofs.caches.Caches.composite_budgets.Goals as goal

pub returns-clause-holds : goal.returns-clause-holds
returns-clause-holds g c = record {
  regions = much-itself equal_regions region_meaning c.args.self.now.regions c.args.pass.regions;
  masks = much-itself equal_masks mask_meaning c.args.self.now.masks c.args.pass.masks;
  composites = each-much equal_composites composite_meaning c.args.self.now.composites c.args.pass.composites c.budgets-composites.result.0 _ c.budgets-composites.ensures.pass (λ n k. refl) (λ n k. refl) (λ n k was. refl);
}

pub returns-clause-adds : goal.returns-clause-adds
returns-clause-adds g c = record {
  composites = adds-each-none equal_composites composite_meaning c.args.self.now.composites c.args.pass.composites c.budgets-composites.result.0 c.budgets-composites.ensures.pass;
  masks = adds-none equal_masks mask_meaning c.args.self.now.masks c.args.pass.masks;
  regions = adds-none equal_regions region_meaning c.args.self.now.regions c.args.pass.regions;
}

pub returns-clause-pass : goal.returns-clause-pass
returns-clause-pass g c = record {
  regions = c.requires.regions;
  masks = c.requires.masks;
  composites = each-of equal_composites composite_meaning c.args.self.now.composites c.args.pass.composites c.budgets-composites.result.0 _ c.requires.composites c.budgets-composites.ensures.pass;
  free = free-before c.args.self.now c.args.pass _ (returns-clause-holds g c) c.requires.free;
}
