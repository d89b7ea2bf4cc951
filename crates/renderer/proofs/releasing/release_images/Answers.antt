use Rattle.std.proofs.Common.{List, ap, rules, subst, ◌∙◌}
use Rattle.renderer.specs.ShownFrames.{MaskLease, leases_of, leases_of_image}
use Rattle.renderer.specs.Holding.{HoldsLeases, AreHome}
use Rattle.renderer.proofs.GivenLeases.{GivesLeases, gives-fewer, images-leases, leases-first, leases-last, released-all, released-more, released-none}
use Rattle.renderer.proofs.Homes.{homes-apart}
use Rattle.renderer.proofs.releasing.release_images.Goals as goal

pub loop-image-init : goal.loop-image-init
loop-image-init g c = record {
  of = c.requires.pass;
  homes = c.requires.own;
  held = c.requires.held;
  released = released-none c.args.caches.now c.args.pass c.args.images.items;
}

pub release_image-pass-requires-clause-own : goal.release_image-pass-requires-clause-own
release_image-pass-requires-clause-own g c =
    let left = c.pop.new.self.items in let image = c.in-Some.image in
    let split = ap leases_of c.in-Some.ensures.items ∙ images-leases left image in
    (homes-apart c.args.caches.now (leases_of left) (leases_of_image image) (subst (λ (l : List MaskLease). AreHome c.args.caches.now l) split c.loop-image.invariant.homes)).1

pub release_image-pass-requires-clause-held : goal.release_image-pass-requires-clause-held
release_image-pass-requires-clause-held g c =
    let left = c.pop.new.self.items in let image = c.in-Some.image in
    let split = ap leases_of c.in-Some.ensures.items ∙ images-leases left image in
    leases-last c.args.caches.now c.loop-image.pass (leases_of left) (leases_of_image image)
    (subst (λ (l : List MaskLease). HoldsLeases c.args.caches.now c.loop-image.pass l) split c.loop-image.invariant.held)

pub loop-image-preserved : goal.loop-image-preserved
loop-image-preserved g c =
    let left = c.pop.new.self.items in let image = c.in-Some.image in let e = c.release_image-pass.ensures in
    let split = ap leases_of c.in-Some.ensures.items ∙ images-leases left image in
    let gives : GivesLeases c.args.caches.now c.loop-image.pass c.release_image-pass.result (leases_of_image image) =
    record { composites = e.composites; fewer = e.holds.composites; masks = e.masks; regions = e.regions } in
    record {
      of = e.pass;
      homes = (homes-apart c.args.caches.now (leases_of left) (leases_of_image image) (subst (λ (l : List MaskLease). AreHome c.args.caches.now l) split c.loop-image.invariant.homes)).0;
      held = leases-first c.args.caches.now c.loop-image.pass c.release_image-pass.result (leases_of left) (leases_of_image image)
          (subst (λ (l : List MaskLease). HoldsLeases c.args.caches.now c.loop-image.pass l) split c.loop-image.invariant.held) gives;
      released = released-more c.args.caches.now c.args.pass c.args.images.items c.loop-image.pass c.release_image-pass.result c.loop-image.images.items left image c.in-Some.ensures.items c.loop-image.invariant.released gives;
    }

pub returns : goal.returns
returns g c =
    let all = released-all c.args.caches.now c.args.pass c.args.images.items c.loop-image.pass c.loop-image.images.items (search rules) c.loop-image.invariant.released in
    record {
      pass = c.loop-image.invariant.of;
      composites = all.composites;
      masks = all.masks;
      regions = all.regions;
      holds = gives-fewer c.args.caches.now c.args.pass c.loop-image.pass (leases_of c.args.images.items) all;
    }
