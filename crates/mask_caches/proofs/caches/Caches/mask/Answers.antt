use Rattle.mask_keys.specs.Equality.{equal_masks, equal_regions}
use Rattle.mask_keys.proofs.Equal.{mask_same, region_same}
use Rattle.mask_keys.specs.contracts.mask_key.MaskKeyEq.TheImpl.Laws as mask_laws
use Rattle.mask_keys.specs.contracts.region_key.RegionKeyEq.TheImpl.Laws as region_laws
use Rattle.cache_kinds.specs.Kinds.{mask_meaning, region_meaning}
use Rattle.mask_caches.proofs.Adding.{adds-none, adds-stays}
use Rattle.mask_caches.proofs.Tagged.{mask-cost, mask-tagged}
use Rattle.mask_caches.proofs.Levels.{found-mask, made-mask, unasked-mask}
use Rattle.mask_caches.proofs.Visiting.{duty-open, duty-value, found-holds, settled-holds, unasked-holds}
use Rattle.mask_caches.proofs.caches.Caches.mask.Goals as goal
use Rattle.mask_caches.proofs.Holding.{much-itself}

pub returns-in-Hit : goal.returns-in-Hit
returns-in-Hit g c =
    let asks = rw c.in-Hit.is at c.ask_mask-masks.ensures.steps in
    let need = rw c.in-Hit.is at c.ask_mask-masks.ensures.asked in
    record {
      visit = found-mask c.args.self.now.regions c.args.self.now.masks c.args.key.now c.args.regions c.args.regions c.args.masks c.ask_mask-masks.result.0 c.in-Hit.pin (adds-none equal_regions region_meaning c.args.self.now.regions c.args.regions) asks need;
      regions = much-itself equal_regions region_meaning c.args.self.now.regions c.args.regions;
      holds = found-holds equal_masks mask_laws.laws-law mask_same mask_meaning c.args.self.now.masks c.args.key.now c.args.masks c.ask_mask-masks.result.0 c.in-Hit.pin asks need;
      home = rw c.in-Hit.is at c.ask_mask-masks.ensures.home;
    }

pub settle-masks-requires : goal.settle-masks-requires
settle-masks-requires g c =
    let asks = rw c.in-Make.is at c.ask_mask-masks.ensures.steps in
    let need = rw c.in-Make.is at c.ask_mask-masks.ensures.asked in
    let made = c.make_mask-regions.result.1 in
    let q = c.ask_mask-masks.result.0 in
    record {
      cell = adds-stays equal_masks mask_meaning c.args.self.now.masks c.args.masks q _ c.requires.masks asks;
      claimed = duty-open equal_masks mask_laws.laws-law mask_same mask_meaning c.args.self.now.masks c.args.key.now c.args.masks q q c.in-Make.duty asks need (much-itself equal_masks mask_meaning c.args.self.now.masks q);
      value = duty-value equal_masks mask_laws.laws-law mask_same mask_meaning c.args.self.now.masks c.args.key.now c.in-Make.duty made need
          (mask-tagged c.args.self.now.fonts c.args.self.now.masks.tag c.args.key.now made c.args.self.now.tags.masks_have c.make_mask-regions.ensures.value);
      cost = mask-cost made;
      own = rw c.in-Make.is at c.ask_mask-masks.ensures.home;
    }

pub returns-in-Make : goal.returns-in-Make
returns-in-Make g c =
    let asks = rw c.in-Make.is at c.ask_mask-masks.ensures.steps in
    let need = rw c.in-Make.is at c.ask_mask-masks.ensures.asked in
    let new = rw c.in-Make.is at c.ask_mask-masks.ensures.new in
    let cache = c.args.self.now.masks in
    let q = c.ask_mask-masks.result.0 in
    let made = c.make_mask-regions.result.1 in
    let had = c.settle-masks.result.1 in
    record {
      visit = made-mask c.args.self.now.regions cache c.args.key.now c.args.regions c.make_mask-regions.result.0 c.args.masks q c.settle-masks.result.0 c.in-Make.duty made had
          asks need c.make_mask-regions.ensures.region c.settle-masks.ensures.steps c.settle-masks.ensures.settled
          (mask-tagged c.args.self.now.fonts cache.tag c.args.key.now made c.args.self.now.tags.masks_have c.make_mask-regions.ensures.value);
      regions = c.make_mask-regions.ensures.holds;
      holds = settled-holds equal_masks mask_laws.laws-law mask_same mask_meaning cache c.args.key.now c.args.masks q q c.settle-masks.result.0 c.in-Make.duty made had
          asks need new (much-itself equal_masks mask_meaning cache q) c.settle-masks.ensures.steps c.settle-masks.ensures.settled;
      home = c.settle-masks.ensures.home;
    }

pub returns-in-OutOfMemory : goal.returns-in-OutOfMemory
returns-in-OutOfMemory g c =
    let asks = rw c.in-OutOfMemory.is at c.ask_mask-masks.ensures.steps in
    record {
      visit = unasked-mask c.args.self.now.regions c.args.self.now.masks c.args.key.now c.args.regions c.args.regions c.args.masks c.ask_mask-masks.result.0 (adds-none equal_regions region_meaning c.args.self.now.regions c.args.regions) asks;
      regions = much-itself equal_regions region_meaning c.args.self.now.regions c.args.regions;
      holds = unasked-holds equal_masks mask_laws.laws-law mask_same mask_meaning c.args.self.now.masks c.args.masks c.ask_mask-masks.result.0 _ asks;
      home = tt;
    }
