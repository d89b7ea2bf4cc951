use Rattle.cache_kinds.specs.Kinds.{composite_meaning, mask_meaning, region_meaning}
use Rattle.mask_keys.specs.Equality.{equal_composites, equal_masks, equal_regions}
use Rattle.flight_cache.proofs.Rows.{nothing_is_given_back}
use Rattle.mask_caches.proofs.Cells.{new-of, split-of}
use Rattle.mask_caches.proofs.Free.{back-free, split-free}
use Rattle.mask_caches.proofs.caches.Caches.split.Goals as goal

pub returns-in-Ok-clause-given : goal.returns-in-Ok-clause-given
returns-in-Ok-clause-given c = record {
  regions = nothing_is_given_back equal_regions region_meaning c.args.self.now.regions.shards c.in-Ok.two.1 c.in-Ok.ensures.empty;
  masks = nothing_is_given_back equal_masks mask_meaning c.args.self.now.masks.shards c.split_with_room-masks.result.1 c.split_with_room-masks.ensures.nothing;
  composites = nothing_is_given_back equal_composites composite_meaning c.args.self.now.composites.shards c.split_with_room-composites.result.1 c.split_with_room-composites.ensures.nothing;
}

pub returns-in-Ok-clause-cells : goal.returns-in-Ok-clause-cells
returns-in-Ok-clause-cells c =
    let caches = c.args.self.now in let pass = c.args.pass in let of = c.requires.pass in (
      record {
        regions = split-of caches.regions pass.regions c.in-Ok.two.0 of.regions c.in-Ok.ensures.passes.0;
        masks = split-of caches.masks pass.masks c.split_with_room-masks.result.0 of.masks c.split_with_room-masks.ensures.first_is;
        composites = split-of caches.composites pass.composites c.split_with_room-composites.result.0 of.composites c.split_with_room-composites.ensures.first_is;
        free = record {
          regions = split-free equal_regions region_meaning caches.regions pass.regions c.in-Ok.two.0 c.in-Ok.ensures.passes.0 of.free.regions;
          masks = split-free equal_masks mask_meaning caches.masks pass.masks c.split_with_room-masks.result.0 c.split_with_room-masks.ensures.first_is of.free.masks;
          composites = split-free equal_composites composite_meaning caches.composites pass.composites c.split_with_room-composites.result.0 c.split_with_room-composites.ensures.first_is of.free.composites;
        };
      },
      record {
        regions = new-of caches.regions pass.regions c.in-Ok.two.1 of.regions c.in-Ok.ensures.passes.1;
        masks = new-of caches.masks pass.masks c.split_with_room-masks.result.1 of.masks c.split_with_room-masks.ensures.new_is;
        composites = new-of caches.composites pass.composites c.split_with_room-composites.result.1 of.composites c.split_with_room-composites.ensures.new_is;
        free = record {
          regions = back-free equal_regions region_meaning caches.regions c.in-Ok.two.1 (nothing_is_given_back equal_regions region_meaning caches.regions.shards c.in-Ok.two.1 c.in-Ok.ensures.empty);
          masks = back-free equal_masks mask_meaning caches.masks c.split_with_room-masks.result.1 (nothing_is_given_back equal_masks mask_meaning caches.masks.shards c.split_with_room-masks.result.1 c.split_with_room-masks.ensures.nothing);
          composites = back-free equal_composites composite_meaning caches.composites c.split_with_room-composites.result.1
              (nothing_is_given_back equal_composites composite_meaning caches.composites.shards c.split_with_room-composites.result.1 c.split_with_room-composites.ensures.nothing);
        };
      },
    )
