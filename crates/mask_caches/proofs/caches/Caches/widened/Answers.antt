use Rattle.mask_keys.specs.Equality.{equal_regions}
use Rattle.mask_keys.proofs.Equal.{region_same}
use Rattle.mask_keys.specs.contracts.region_key.RegionKeyEq.TheImpl.Laws as region_laws
use Rattle.cache_kinds.specs.Kinds.{region_meaning}
use Rattle.mask_caches.proofs.Adding.{adds-stays}
use Rattle.mask_caches.proofs.Free.{widened-open}
use Rattle.mask_caches.proofs.Levels.{found-region, unasked-region, widened-visit}
use Rattle.mask_caches.proofs.Tagged.{region-cost, region-tagged}
use Rattle.mask_caches.proofs.Visiting.{duty-open, duty-value, found-holds, settled-holds, unasked-holds}
use Rattle.mask_caches.proofs.caches.Caches.widened.Goals as goal

pub returns-in-Hit : goal.returns-in-Hit
returns-in-Hit g c =
    let asks = rw c.in-Hit.is at c.ask_region-pass.ensures.steps in
    let need = rw c.in-Hit.is at c.ask_region-pass.ensures.asked in
    record {
      visit = found-region c.args.self.now.regions c.args.key.now c.args.pass c.ask_region-pass.result.0 c.in-Hit.pin asks need;
      holds = found-holds equal_regions region_laws.laws-law region_same region_meaning c.args.self.now.regions c.args.key.now c.args.pass c.ask_region-pass.result.0 c.in-Hit.pin asks need;
      home = rw c.in-Hit.is at c.ask_region-pass.ensures.home;
    }

pub make_widened-pass-requires-clause-pass : goal.make_widened-pass-requires-clause-pass
make_widened-pass-requires-clause-pass g c = adds-stays equal_regions region_meaning c.args.self.now.regions c.args.pass c.ask_region-pass.result.0 _ c.requires.pass c.ask_region-pass.ensures.steps

pub settle-requires : goal.settle-requires
settle-requires g c =
    let asks = rw c.in-Make.is at c.ask_region-pass.ensures.steps in
    let need = rw c.in-Make.is at c.ask_region-pass.ensures.asked in
    let value = region-tagged c.args.self.now.fonts c.args.self.now.regions.tag c.args.key.now c.make_widened-pass.result.1 c.args.self.now.tags.regions_have c.make_widened-pass.ensures.value in
    record {
      cell = adds-stays equal_regions region_meaning c.args.self.now.regions c.ask_region-pass.result.0 c.make_widened-pass.result.0 _ (adds-stays equal_regions region_meaning c.args.self.now.regions c.args.pass c.ask_region-pass.result.0 _ c.requires.pass asks) c.make_widened-pass.ensures.outline.1;
      claimed = duty-open equal_regions region_laws.laws-law region_same region_meaning c.args.self.now.regions c.args.key.now c.args.pass c.ask_region-pass.result.0 c.make_widened-pass.result.0 c.in-Make.duty asks need c.make_widened-pass.ensures.holds;
      value = duty-value equal_regions region_laws.laws-law region_same region_meaning c.args.self.now.regions c.args.key.now c.in-Make.duty c.make_widened-pass.result.1 need value;
      cost = region-cost c.make_widened-pass.result.1;
      own = rw c.in-Make.is at c.ask_region-pass.ensures.home;
    }

pub returns-in-Make : goal.returns-in-Make
returns-in-Make g c =
    let asks = rw c.in-Make.is at c.ask_region-pass.ensures.steps in
    let need = rw c.in-Make.is at c.ask_region-pass.ensures.asked in
    let new = rw c.in-Make.is at c.ask_region-pass.ensures.new in
    let cache = c.args.self.now.regions in
    let q = c.ask_region-pass.result.0 in
    let value = region-tagged c.args.self.now.fonts cache.tag c.args.key.now c.make_widened-pass.result.1 c.args.self.now.tags.regions_have c.make_widened-pass.ensures.value in
    record {
      visit = widened-visit cache c.args.key.now c.args.pass q c.make_widened-pass.result.0 c.settle.result.0 c.in-Make.duty c.make_widened-pass.result.1 c.settle.result.1 c.requires.widened
          asks need c.make_widened-pass.ensures.outline c.settle.ensures.steps c.settle.ensures.settled value;
      holds = settled-holds equal_regions region_laws.laws-law region_same region_meaning cache c.args.key.now c.args.pass q c.make_widened-pass.result.0 c.settle.result.0 c.in-Make.duty c.make_widened-pass.result.1 c.settle.result.1
          asks need new c.make_widened-pass.ensures.holds c.settle.ensures.steps c.settle.ensures.settled;
      home = c.settle.ensures.home;
    }

pub returns-in-OutOfMemory : goal.returns-in-OutOfMemory
returns-in-OutOfMemory g c =
    let asks = rw c.in-OutOfMemory.is at c.ask_region-pass.ensures.steps in
    record {
      visit = unasked-region c.args.self.now.regions c.args.key.now c.args.pass c.ask_region-pass.result.0 asks;
      holds = unasked-holds equal_regions region_laws.laws-law region_same region_meaning c.args.self.now.regions c.args.pass c.ask_region-pass.result.0 _ asks;
      home = tt;
    }

pub make_widened-pass-requires-clause-free : goal.make_widened-pass-requires-clause-free
make_widened-pass-requires-clause-free g c =
    let asks = rw c.in-Make.is at c.ask_region-pass.ensures.steps in
    widened-open c.args.self.now.regions c.args.key.now c.args.pass c.ask_region-pass.result.0 c.in-Make.duty c.requires.free asks c.requires.widened
