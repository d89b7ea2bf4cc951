use Rattle.std.proofs.Common.{ap, refl, ◌∙◌}
use Rattle.renderer.proofs.renderer.Renderer.release.Goals as goal

pub release_images-caches-requires-clause-own : goal.release_images-caches-requires-clause-own
release_images-caches-requires-clause-own g c =
    let own = rw (← c.self.view_is) at c.requires.own in
    rw c.into_vec.ensures own

pub release_images-caches-requires-clause-held : goal.release_images-caches-requires-clause-held
release_images-caches-requires-clause-held g c =
    let held = rw (← c.self.view_is, ← c.pass.view_is) at c.requires.held in
    rw c.into_vec.ensures held

pub invariant_of-result : goal.invariant_of-result
invariant_of-result g c =
    let same = c.release_images-caches.ensures.regions in
    record {
      number = ap (λ o. o.first.number) same ∙ c.pass.invariant.number;
      next = ap (λ o. o.first.next) same ∙ c.pass.invariant.next;
    }

pub returns : goal.returns
returns g c =
    let e = rw c.into_vec.ensures at c.release_images-caches.ensures in
    let of = rw (← c.self.view_is, ← c.pass.view_is) at c.requires.pass in
    rw (← c.self.view_is, ← c.pass.view_is) (record {
      pass = record { track = of.track; caches = e.pass };
      track = refl;
      composites = e.composites;
      masks = e.masks;
      regions = e.regions;
      holds = e.holds;
    })
