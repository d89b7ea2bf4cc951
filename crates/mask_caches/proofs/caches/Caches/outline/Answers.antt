use Rattle.std.proofs.Common.{[], refl}
use Rattle.mask_keys.specs.Equality.{equal_regions}
use Rattle.mask_keys.proofs.Equal.{region_same}
use Rattle.mask_keys.specs.contracts.region_key.RegionKeyEq.TheImpl.Laws as region_laws
use Rattle.cache_kinds.specs.Kinds.{region_meaning}
use Rattle.mask_caches.specs.Courses.{Found, Unasked}
use Rattle.mask_caches.proofs.Adding.{adds-none, adds-stays}
use Rattle.mask_caches.proofs.Tagged.{region-cost, region-tagged}
use Rattle.mask_caches.proofs.Visiting.{any-ok, duty-open, duty-value, found-holds, settled-course, settled-holds, unasked-holds}
use Rattle.mask_caches.proofs.caches.Caches.outline.Goals as goal
use Rattle.mask_caches.proofs.Holding.{much-itself}

pub returns-in-Hit : goal.returns-in-Hit
returns-in-Hit g c =
    let asks = rw c.in-Hit.is at c.ask_outline-pass.ensures.steps in
    let need = rw c.in-Hit.is at c.ask_outline-pass.ensures.asked in
    record {
      visit = (Found, asks, (refl, need.0, need.1));
      holds = found-holds equal_regions region_laws.laws-law region_same region_meaning c.args.self.now.regions c.args.key.now c.args.pass c.ask_outline-pass.result.0 c.in-Hit.pin asks need;
      home = rw c.in-Hit.is at c.ask_outline-pass.ensures.home;
    }

pub settle-requires : goal.settle-requires
settle-requires g c =
    let asks = rw c.in-Make.is at c.ask_outline-pass.ensures.steps in
    let need = rw c.in-Make.is at c.ask_outline-pass.ensures.asked in
    let value = region-tagged c.args.self.now.fonts c.args.self.now.regions.tag c.args.key.now c.make_outline-made.result c.args.self.now.tags.regions_have c.make_outline-made.ensures in
    record {
      cell = adds-stays equal_regions region_meaning c.args.self.now.regions c.args.pass c.ask_outline-pass.result.0 _ c.requires.pass asks;
      claimed = duty-open equal_regions region_laws.laws-law region_same region_meaning c.args.self.now.regions c.args.key.now c.args.pass c.ask_outline-pass.result.0 c.ask_outline-pass.result.0 c.in-Make.duty asks need (much-itself equal_regions region_meaning c.args.self.now.regions c.ask_outline-pass.result.0);
      value = duty-value equal_regions region_laws.laws-law region_same region_meaning c.args.self.now.regions c.args.key.now c.in-Make.duty c.make_outline-made.result need value;
      cost = region-cost c.make_outline-made.result;
      own = rw c.in-Make.is at c.ask_outline-pass.ensures.home;
    }

pub returns-in-Make : goal.returns-in-Make
returns-in-Make g c =
    let asks = rw c.in-Make.is at c.ask_outline-pass.ensures.steps in
    let need = rw c.in-Make.is at c.ask_outline-pass.ensures.asked in
    let new = rw c.in-Make.is at c.ask_outline-pass.ensures.new in
    let cache = c.args.self.now.regions in
    let q = c.ask_outline-pass.result.0 in
    let value = region-tagged c.args.self.now.fonts cache.tag c.args.key.now c.make_outline-made.result c.args.self.now.tags.regions_have c.make_outline-made.ensures in
    let v = settled-course equal_regions region_laws.laws-law region_same region_meaning cache c.args.key.now [] c.args.pass q q c.settle.result.0 c.in-Make.duty c.make_outline-made.result c.settle.result.1
    asks need (adds-none equal_regions region_meaning cache q) c.settle.ensures.steps c.settle.ensures.settled value (any-ok {P = Unit {0}} c.make_outline-made.result tt) in
    record {
      visit = (v.0, v.1, v.2);
      holds = settled-holds equal_regions region_laws.laws-law region_same region_meaning cache c.args.key.now c.args.pass q q c.settle.result.0 c.in-Make.duty c.make_outline-made.result c.settle.result.1
          asks need new (much-itself equal_regions region_meaning cache q) c.settle.ensures.steps c.settle.ensures.settled;
      home = c.settle.ensures.home;
    }

pub returns-in-OutOfMemory : goal.returns-in-OutOfMemory
returns-in-OutOfMemory g c =
    let asks = rw c.in-OutOfMemory.is at c.ask_outline-pass.ensures.steps in
    record {
      visit = (Unasked, asks, refl);
      holds = unasked-holds equal_regions region_laws.laws-law region_same region_meaning c.args.self.now.regions c.args.pass c.ask_outline-pass.result.0 _ asks;
      home = tt;
    }
