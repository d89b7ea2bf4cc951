use Rattle.std.proofs.Common.{refl}
use Rattle.cache_kinds.specs.Kinds.{composite_meaning, mask_meaning, region_meaning}
use Rattle.mask_keys.specs.Equality.{equal_composites, equal_masks, equal_regions}
use Rattle.mask_keys.proofs.Equal.{composite_same}
use Rattle.mask_keys.specs.contracts.composite_key.CompositeKeyEq.TheImpl.Laws as composite_laws
use Rattle.mask_keys.specs.contracts.mask_key.MaskKeyEq.TheImpl.Laws as mask_laws
use Rattle.mask_keys.specs.contracts.region_key.RegionKeyEq.TheImpl.Laws as region_laws
use Rattle.mask_caches.proofs.Adding.{adds-stays}
use Rattle.mask_caches.proofs.Tagged.{composite-tagged, mask-cost}
use Rattle.mask_caches.proofs.Levels.{found-composite, made-composite, unasked-composite}
use Rattle.mask_caches.proofs.Visiting.{duty-open, duty-value, found-holds, settled-holds, unasked-holds}
use Rattle.mask_caches.proofs.caches.Caches.visit_composite.Goals as goal
use Rattle.mask_caches.proofs.Holding.{much-itself}

pub returns-in-Hit : goal.returns-in-Hit
returns-in-Hit g c =
    let asks = rw c.in-Hit.is at c.ask_composite-composites.ensures.steps in
    let need = rw c.in-Hit.is at c.ask_composite-composites.ensures.asked in
    record {
      composed = found-composite c.args.self.now c.args.key.now _ _ c.in-Hit.pin asks need refl refl;
      holds = record {
        composites = found-holds equal_composites composite_laws.laws-law composite_same composite_meaning c.args.self.now.composites c.args.key.now c.args.passes.composites c.ask_composite-composites.result.0 c.in-Hit.pin asks need;
        masks = much-itself equal_masks mask_meaning c.args.self.now.masks c.args.passes.masks;
        regions = much-itself equal_regions region_meaning c.args.self.now.regions c.args.passes.regions;
      };
      home = rw c.in-Hit.is at c.ask_composite-composites.ensures.home;
    }

pub settle-composites-requires : goal.settle-composites-requires
settle-composites-requires g c =
    let asks = rw c.in-Make.is at c.ask_composite-composites.ensures.steps in
    let need = rw c.in-Make.is at c.ask_composite-composites.ensures.asked in
    let cache = c.args.self.now.composites in
    let q = c.ask_composite-composites.result.0 in
    let made = c.make_composite-regions.result.2 in
    record {
      cell = adds-stays equal_composites composite_meaning cache c.args.passes.composites q _ c.requires.composites asks;
      claimed = duty-open equal_composites composite_laws.laws-law composite_same composite_meaning cache c.args.key.now c.args.passes.composites q q c.in-Make.duty asks need (much-itself equal_composites composite_meaning cache q);
      value = duty-value equal_composites composite_laws.laws-law composite_same composite_meaning cache c.args.key.now c.in-Make.duty made need
          (composite-tagged c.args.self.now.fonts cache.tag c.args.key.now made c.args.self.now.tags.composites_have c.make_composite-regions.ensures.value);
      cost = mask-cost made;
      own = rw c.in-Make.is at c.ask_composite-composites.ensures.home;
    }

pub returns-in-Make : goal.returns-in-Make
returns-in-Make g c =
    let asks = rw c.in-Make.is at c.ask_composite-composites.ensures.steps in
    let need = rw c.in-Make.is at c.ask_composite-composites.ensures.asked in
    let new = rw c.in-Make.is at c.ask_composite-composites.ensures.new in
    let cache = c.args.self.now.composites in
    let q = c.ask_composite-composites.result.0 in
    let made = c.make_composite-regions.result.2 in
    let had = c.settle-composites.result.1 in
    record {
      composed = made-composite c.args.self.now c.args.key.now _ _ q c.in-Make.duty made had asks need c.make_composite-regions.ensures.visits c.settle-composites.ensures.steps c.settle-composites.ensures.settled
          (composite-tagged c.args.self.now.fonts cache.tag c.args.key.now made c.args.self.now.tags.composites_have c.make_composite-regions.ensures.value);
      holds = record {
        composites = settled-holds equal_composites composite_laws.laws-law composite_same composite_meaning cache c.args.key.now c.args.passes.composites q q c.settle-composites.result.0 c.in-Make.duty made had
            asks need new (much-itself equal_composites composite_meaning cache q) c.settle-composites.ensures.steps c.settle-composites.ensures.settled;
        masks = c.make_composite-regions.ensures.holds;
        regions = c.make_composite-regions.ensures.regions;
      };
      home = c.settle-composites.ensures.home;
    }

pub returns-in-OutOfMemory : goal.returns-in-OutOfMemory
returns-in-OutOfMemory g c =
    let asks = rw c.in-OutOfMemory.is at c.ask_composite-composites.ensures.steps in
    record {
      composed = unasked-composite c.args.self.now c.args.key.now _ _ _ asks (rw c.in-OutOfMemory.is at c.ask_composite-composites.ensures.short) refl refl;
      holds = record {
        composites = unasked-holds equal_composites composite_laws.laws-law composite_same composite_meaning c.args.self.now.composites c.args.passes.composites c.ask_composite-composites.result.0 _ asks;
        masks = much-itself equal_masks mask_meaning c.args.self.now.masks c.args.passes.masks;
        regions = much-itself equal_regions region_meaning c.args.self.now.regions c.args.passes.regions;
      };
      home = tt;
    }
