use Rattle.cache_kinds.specs.Kinds.{composite_meaning, mask_meaning, region_meaning}
use Rattle.flight_cache.specs.Shards.{at, hard_part}
use Rattle.flight_cache.proofs.HardSets.{each-set, hard-gives, hard-opens, hard-takes}
use Rattle.flight_cache.proofs.Rows.{each_is_later}
use Rattle.mask_keys.specs.Equality.{equal_composites, equal_masks, equal_regions}
use Rattle.mask_caches.proofs.Cells.{each-of}
use Rattle.mask_caches.proofs.Free.{free-before}
use Rattle.mask_caches.proofs.Holding.{each-much}
use Rattle.mask_caches.proofs.Staying.{together-later}
use Rattle.mask_caches.proofs.caches.Caches.set_hard_limit.Goals as goal

pub invariant_of-pass : goal.invariant_of-pass
invariant_of-pass g c = record {
  together = together-later c.args.pass.regions c.set_hard_limit-regions.result.0 c.args.pass.masks c.set_hard_limit-masks.result.0 c.args.pass.composites c.set_hard_limit-composites.result.0 c.args.pass.together
      (each_is_later equal_regions region_meaning c.args.self.now.regions.shards c.args.pass.regions c.set_hard_limit-regions.result.0 _ (each-set equal_regions region_meaning c.args.self.now.regions.shards c.args.pass.regions c.set_hard_limit-regions.result.0 c.args.hard c.set_hard_limit-regions.result.1 c.set_hard_limit-regions.ensures))
      (each_is_later equal_masks mask_meaning c.args.self.now.masks.shards c.args.pass.masks c.set_hard_limit-masks.result.0 _ (each-set equal_masks mask_meaning c.args.self.now.masks.shards c.args.pass.masks c.set_hard_limit-masks.result.0 c.args.hard c.set_hard_limit-masks.result.1 c.set_hard_limit-masks.ensures))
      (each_is_later equal_composites composite_meaning c.args.self.now.composites.shards c.args.pass.composites c.set_hard_limit-composites.result.0 _ (each-set equal_composites composite_meaning c.args.self.now.composites.shards c.args.pass.composites c.set_hard_limit-composites.result.0 c.args.hard c.set_hard_limit-composites.result.1 c.set_hard_limit-composites.ensures));
}

pub returns-clause-holds : goal.returns-clause-holds
returns-clause-holds g c = record {
  regions = each-much equal_regions region_meaning c.args.self.now.regions c.args.pass.regions c.set_hard_limit-regions.result.0 _ (each-set equal_regions region_meaning c.args.self.now.regions.shards c.args.pass.regions c.set_hard_limit-regions.result.0 c.args.hard c.set_hard_limit-regions.result.1 c.set_hard_limit-regions.ensures) (λ n k. hard-takes _ equal_regions k (hard_part c.args.hard n) (at c.set_hard_limit-regions.ensures.sets n)) (λ n k. hard-gives _ equal_regions k (hard_part c.args.hard n) (at c.set_hard_limit-regions.ensures.sets n)) (λ n k was. hard-opens _ equal_regions k was (hard_part c.args.hard n) (at c.set_hard_limit-regions.ensures.sets n));
  masks = each-much equal_masks mask_meaning c.args.self.now.masks c.args.pass.masks c.set_hard_limit-masks.result.0 _ (each-set equal_masks mask_meaning c.args.self.now.masks.shards c.args.pass.masks c.set_hard_limit-masks.result.0 c.args.hard c.set_hard_limit-masks.result.1 c.set_hard_limit-masks.ensures) (λ n k. hard-takes _ equal_masks k (hard_part c.args.hard n) (at c.set_hard_limit-masks.ensures.sets n)) (λ n k. hard-gives _ equal_masks k (hard_part c.args.hard n) (at c.set_hard_limit-masks.ensures.sets n)) (λ n k was. hard-opens _ equal_masks k was (hard_part c.args.hard n) (at c.set_hard_limit-masks.ensures.sets n));
  composites = each-much equal_composites composite_meaning c.args.self.now.composites c.args.pass.composites c.set_hard_limit-composites.result.0 _ (each-set equal_composites composite_meaning c.args.self.now.composites.shards c.args.pass.composites c.set_hard_limit-composites.result.0 c.args.hard c.set_hard_limit-composites.result.1 c.set_hard_limit-composites.ensures) (λ n k. hard-takes _ equal_composites k (hard_part c.args.hard n) (at c.set_hard_limit-composites.ensures.sets n)) (λ n k. hard-gives _ equal_composites k (hard_part c.args.hard n) (at c.set_hard_limit-composites.ensures.sets n)) (λ n k was. hard-opens _ equal_composites k was (hard_part c.args.hard n) (at c.set_hard_limit-composites.ensures.sets n));
}

pub returns-clause-pass : goal.returns-clause-pass
returns-clause-pass g c = record {
  regions = each-of equal_regions region_meaning c.args.self.now.regions c.args.pass.regions c.set_hard_limit-regions.result.0 _ c.requires.pass.regions (each-set equal_regions region_meaning c.args.self.now.regions.shards c.args.pass.regions c.set_hard_limit-regions.result.0 c.args.hard c.set_hard_limit-regions.result.1 c.set_hard_limit-regions.ensures);
  masks = each-of equal_masks mask_meaning c.args.self.now.masks c.args.pass.masks c.set_hard_limit-masks.result.0 _ c.requires.pass.masks (each-set equal_masks mask_meaning c.args.self.now.masks.shards c.args.pass.masks c.set_hard_limit-masks.result.0 c.args.hard c.set_hard_limit-masks.result.1 c.set_hard_limit-masks.ensures);
  composites = each-of equal_composites composite_meaning c.args.self.now.composites c.args.pass.composites c.set_hard_limit-composites.result.0 _ c.requires.pass.composites (each-set equal_composites composite_meaning c.args.self.now.composites.shards c.args.pass.composites c.set_hard_limit-composites.result.0 c.args.hard c.set_hard_limit-composites.result.1 c.set_hard_limit-composites.ensures);
  free = free-before c.args.self.now c.args.pass _ (returns-clause-holds g c) c.requires.pass.free;
}
