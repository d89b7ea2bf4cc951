use Rattle.std.proofs.Common.{◌≡◌, true, ap, ◌∙◌}
use Rattle.std.specs.Arc.{arc_value}
use Rattle.mask_keys.specs.Equality.{equal_regions}
use Rattle.mask_keys.specs.Keys.{region_key}
use Rattle.mask_keys.specs.declared.region_key.RegionKey.{RegionKey}
use Rattle.mask_keys.proofs.Equal.{region_same}
use Rattle.mask_keys.specs.contracts.region_key.RegionKeyEq.TheImpl.Laws as region_laws
use Rattle.mask_keys.specs.Values.{region_value}
use Rattle.cache_kinds.specs.Kinds.{region_meaning}
use Rattle.mask_caches.specs.Courses.{Unasked, has_value}
use Rattle.mask_caches.proofs.Adding.{adds-none, adds-stays}
use Rattle.mask_caches.proofs.Levels.{no-region-visit, region-refused, region-used}
use Rattle.mask_caches.proofs.PlainValues.{mask-made, region-near}
use Rattle.mask_caches.proofs.Tagged.{region-of-fonts}
use Rattle.mask_caches.proofs.Visiting.{any-ok, given-again, lease-held, refused-much}
use Rattle.mask_caches.proofs.caches.Caches.make_mask.Goals as goal
use Rattle.mask_caches.proofs.Holding.{much-itself}

pub returns-in_default : goal.returns-in_default
returns-in_default g c =
    let none = no-region-visit (region_key c.args.key.now) in
    record {
      region = (record { course = Unasked; outline = Unasked }, none, adds-none equal_regions region_meaning c.args.self.now.regions c.args.regions, tt);
      holds = much-itself equal_regions region_meaning c.args.self.now.regions c.args.regions;
      value = tt;
    }

pub mask_from-made-requires-clause-region : goal.mask_from-made-requires-clause-region
mask_from-made-requires-clause-region g c =
    let v = rw c.in-Ok-had.is at c.region-regions.ensures.visit in
    let fonts = c.args.self.now.fonts in
    region-near (arc_value fonts).fonts c.in-Ok.region_key c.value.result.now
    (c.value.ensures ∙ region-of-fonts fonts c.args.self.now.regions.tag c.args.self.now.tags.regions_have v.0.course c.in-Ok.region_key c.in-Ok-had.lease v.3)

pub give_back-requires : goal.give_back-requires
give_back-requires g c =
    let v = rw c.in-Ok-had.is at c.region-regions.ensures.visit in
    let holds = rw c.in-Ok-had.is at c.region-regions.ensures.holds in
    record {
      cell = adds-stays equal_regions region_meaning c.args.self.now.regions c.args.regions c.region-regions.result.0 _ c.requires.pass v.2;
      held = lease-held equal_regions region_laws.laws-law region_same region_meaning c.args.self.now.regions c.args.regions c.region-regions.result.0 c.in-Ok-had.lease holds;
      own = rw c.in-Ok-had.is at c.region-regions.ensures.home;
    }

pub returns-in-Ok-had : goal.returns-in-Ok-had
returns-in-Ok-had g c =
    let v = rw c.in-Ok-had.is at c.region-regions.ensures.visit in
    let holds = rw c.in-Ok-had.is at c.region-regions.ensures.holds in
    let fonts = c.args.self.now.fonts in
    let cache = c.args.self.now.regions in
    let u = region-used cache c.args.regions c.region-regions.result.0 c.give_back.result c.in-Ok.region_key c.in-Ok-had.lease c.args.key.now c.in-Ok.ensures v c.give_back.ensures.steps in
    record {
      region = (u.0, u.1, u.2, any-ok {P = has_value u.0.course ≡ true} c.mask_from-made.result u.3);
      holds = given-again equal_regions region_laws.laws-law region_same region_meaning cache c.args.regions c.region-regions.result.0 c.give_back.result c.in-Ok-had.lease holds c.give_back.ensures.steps;
      value = mask-made (arc_value fonts).fonts c.args.key.now c.value.result.now c.mask_from-made.result
          (c.value.ensures ∙ (region-of-fonts fonts cache.tag c.args.self.now.tags.regions_have v.0.course c.in-Ok.region_key c.in-Ok-had.lease v.3 ∙ ap (λ (k : RegionKey). region_value (arc_value fonts).fonts k) c.in-Ok.ensures))
          c.mask_from-made.ensures;
    }

pub returns : goal.returns
returns g c =
    let v = rw c.in-Err.is at c.region-regions.ensures.visit in
    let holds = rw c.in-Err.is at c.region-regions.ensures.holds in
    record {
      region = region-refused c.args.self.now.regions c.args.regions c.region-regions.result.0 c.in-Ok.region_key c.args.key.now c.in-Ok.ensures v;
      holds = refused-much equal_regions region_laws.laws-law region_same region_meaning c.args.self.now.regions c.args.regions c.region-regions.result.0 _ holds;
      value = tt;
    }
