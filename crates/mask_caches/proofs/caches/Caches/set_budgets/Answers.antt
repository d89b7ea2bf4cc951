use Rattle.std.proofs.Common.{refl}
use Rattle.cache_kinds.specs.Kinds.{composite_meaning, mask_meaning, region_meaning}
use Rattle.mask_keys.specs.Equality.{equal_composites, equal_masks, equal_regions}
use Rattle.mask_caches.proofs.Cells.{each-of}
use Rattle.mask_caches.proofs.Free.{free-before}
use Rattle.mask_caches.proofs.Holding.{each-much}
use Rattle.mask_caches.proofs.caches.Caches.set_budgets.Goals as goal

pub returns-clause-holds : goal.returns-clause-holds
returns-clause-holds g c = record {
  regions = each-much equal_regions region_meaning c.args.self.now.regions c.args.pass.regions c.set_limits-regions.result _ c.set_limits-regions.ensures (λ n k. refl) (λ n k. refl) (λ n k was. refl);
  masks = each-much equal_masks mask_meaning c.args.self.now.masks c.args.pass.masks c.set_limits-masks.result _ c.set_limits-masks.ensures (λ n k. refl) (λ n k. refl) (λ n k was. refl);
  composites = each-much equal_composites composite_meaning c.args.self.now.composites c.args.pass.composites c.set_limits-composites.result _ c.set_limits-composites.ensures (λ n k. refl) (λ n k. refl) (λ n k was. refl);
}

pub returns-clause-pass : goal.returns-clause-pass
returns-clause-pass g c = record {
  regions = each-of equal_regions region_meaning c.args.self.now.regions c.args.pass.regions c.set_limits-regions.result _ c.requires.pass.regions c.set_limits-regions.ensures;
  masks = each-of equal_masks mask_meaning c.args.self.now.masks c.args.pass.masks c.set_limits-masks.result _ c.requires.pass.masks c.set_limits-masks.ensures;
  composites = each-of equal_composites composite_meaning c.args.self.now.composites c.args.pass.composites c.set_limits-composites.result _ c.requires.pass.composites c.set_limits-composites.ensures;
  free = free-before c.args.self.now c.args.pass _ (returns-clause-holds g c) c.requires.pass.free;
}
