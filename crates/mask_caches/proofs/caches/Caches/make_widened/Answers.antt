use Rattle.std.proofs.Common.{◌≡◌, true, ap, ◌∙◌}
use Rattle.std.specs.Arc.{arc_value}
use Rattle.mask_keys.specs.Equality.{equal_regions}
use Rattle.mask_keys.specs.declared.region_key.RegionKey.{RegionKey}
use Rattle.mask_keys.proofs.Equal.{region_same}
use Rattle.mask_keys.specs.contracts.region_key.RegionKeyEq.TheImpl.Laws as region_laws
use Rattle.mask_keys.specs.Values.{region_value}
use Rattle.cache_kinds.specs.Kinds.{region_meaning}
use Rattle.mask_caches.specs.Courses.{Unasked, has_value}
use Rattle.mask_caches.proofs.Adding.{adds-none, adds-stays}
use Rattle.mask_caches.proofs.Levels.{outline-refused, outline-used}
use Rattle.mask_caches.proofs.PlainValues.{outline-had-near, widened-made}
use Rattle.mask_caches.proofs.Tagged.{region-of-fonts}
use Rattle.mask_caches.proofs.Visiting.{any-ok, given-again, lease-held, refused-much}
use Rattle.mask_caches.proofs.caches.Caches.make_widened.Goals as goal
use Rattle.mask_caches.proofs.Holding.{much-itself}

pub returns-in_default : goal.returns-in_default
returns-in_default g c = record {
  outline = (Unasked, adds-none equal_regions region_meaning c.args.self.now.regions c.args.pass, tt);
  holds = much-itself equal_regions region_meaning c.args.self.now.regions c.args.pass;
  value = tt;
}

pub border_from-made-requires-clause-outline : goal.border_from-made-requires-clause-outline
border_from-made-requires-clause-outline g c =
    let v = rw c.in-Ok-had.is at c.outline-pass.ensures.visit in
    let fonts = c.args.self.now.fonts in
    outline-had-near (arc_value fonts).fonts c.args.key.now c.value.result.now
    (c.value.ensures ∙ (region-of-fonts fonts c.args.self.now.regions.tag c.args.self.now.tags.regions_have v.0 c.in-Ok.outline c.in-Ok-had.lease v.2 ∙ ap (λ (k : RegionKey). region_value (arc_value fonts).fonts k) c.in-Ok.ensures))

pub give_back-requires : goal.give_back-requires
give_back-requires g c =
    let v = rw c.in-Ok-had.is at c.outline-pass.ensures.visit in
    let holds = rw c.in-Ok-had.is at c.outline-pass.ensures.holds in
    record {
      cell = adds-stays equal_regions region_meaning c.args.self.now.regions c.args.pass c.outline-pass.result.0 _ c.requires.pass v.1;
      held = lease-held equal_regions region_laws.laws-law region_same region_meaning c.args.self.now.regions c.args.pass c.outline-pass.result.0 c.in-Ok-had.lease holds;
      own = rw c.in-Ok-had.is at c.outline-pass.ensures.home;
    }

pub returns-in-Ok-had : goal.returns-in-Ok-had
returns-in-Ok-had g c =
    let v = rw c.in-Ok-had.is at c.outline-pass.ensures.visit in
    let holds = rw c.in-Ok-had.is at c.outline-pass.ensures.holds in
    let fonts = c.args.self.now.fonts in
    let cache = c.args.self.now.regions in
    let u = outline-used cache c.args.pass c.outline-pass.result.0 c.give_back.result c.in-Ok.outline c.in-Ok-had.lease c.args.key.now c.in-Ok.ensures v c.give_back.ensures.steps in
    record {
      outline = (u.0, u.1, any-ok {P = has_value u.0 ≡ true} c.border_from-made.result u.2);
      holds = given-again equal_regions region_laws.laws-law region_same region_meaning cache c.args.pass c.outline-pass.result.0 c.give_back.result c.in-Ok-had.lease holds c.give_back.ensures.steps;
      value = widened-made (arc_value fonts).fonts c.args.key.now c.value.result.now c.border_from-made.result
          (c.value.ensures ∙ (region-of-fonts fonts cache.tag c.args.self.now.tags.regions_have v.0 c.in-Ok.outline c.in-Ok-had.lease v.2 ∙ ap (λ (k : RegionKey). region_value (arc_value fonts).fonts k) c.in-Ok.ensures))
          c.border_from-made.ensures;
    }

pub returns : goal.returns
returns g c =
    let v = rw c.in-Err.is at c.outline-pass.ensures.visit in
    let holds = rw c.in-Err.is at c.outline-pass.ensures.holds in
    record {
      outline = outline-refused c.args.self.now.regions c.args.pass c.outline-pass.result.0 c.in-Ok.outline c.args.key.now c.in-Ok.ensures v;
      holds = refused-much equal_regions region_laws.laws-law region_same region_meaning c.args.self.now.regions c.args.pass c.outline-pass.result.0 _ holds;
      value = tt;
    }
