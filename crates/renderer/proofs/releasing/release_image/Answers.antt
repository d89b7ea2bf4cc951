use Rattle.std.proofs.Common.{[], ◌∷◌}
use Rattle.renderer.specs.ShownFrames.{leases_of_clip}
use Rattle.renderer.proofs.GivenLeases.{GivesLeases, gives-fewer, gives-one, gives-then, lease-held, leases-first, leases-last}
use Rattle.cache_kinds.specs.Kinds.{composite_meaning}
use Rattle.mask_caches.specs.Leases.{IsHomeLease}
use Rattle.std.proofs.lemmas.List.Elements.{All-head, All-tail}
use Rattle.renderer.proofs.releasing.release_image.Goals as goal

pub release_clip-pass-requires-clause-own : goal.release_clip-pass-requires-clause-own
release_clip-pass-requires-clause-own g c = All-tail (IsHomeLease composite_meaning c.args.caches.now.composites) c.args.image.mask (leases_of_clip c.args.image.stencil) c.requires.own

pub give_back-requires-clause-own : goal.give_back-requires-clause-own
give_back-requires-clause-own g c = All-head (IsHomeLease composite_meaning c.args.caches.now.composites) c.args.image.mask (leases_of_clip c.args.image.stencil) c.requires.own

pub release_clip-pass-requires-clause-held : goal.release_clip-pass-requires-clause-held
release_clip-pass-requires-clause-held g c = leases-last c.args.caches.now c.args.pass (c.args.image.mask ∷ []) (leases_of_clip c.args.image.stencil) c.requires.held

pub give_back-requires-clause-held : goal.give_back-requires-clause-held
give_back-requires-clause-held g c =
    let caches = c.args.caches.now in let lease = c.args.image.mask in let clip = leases_of_clip c.args.image.stencil in
    let given = c.release_clip-pass.result in let e = c.release_clip-pass.ensures in
    let gives : GivesLeases caches c.args.pass given clip = record { composites = e.composites; fewer = e.holds.composites; masks = e.masks; regions = e.regions } in
    lease-held caches given lease (leases-first caches c.args.pass given (lease ∷ []) clip c.requires.held gives)

pub returns : goal.returns
returns g c =
    let caches = c.args.caches.now in let lease = c.args.image.mask in let clip = leases_of_clip c.args.image.stencil in
    let given = c.release_clip-pass.result in let e = c.release_clip-pass.ensures in let f = c.give_back.ensures in
    let gives : GivesLeases caches c.args.pass given clip = record { composites = e.composites; fewer = e.holds.composites; masks = e.masks; regions = e.regions } in
    let all = gives-then caches c.args.pass given c.give_back.result (lease ∷ []) clip gives (gives-one caches given c.give_back.result lease f.composites f.masks f.regions) in
    record {
      pass = f.pass;
      composites = all.composites;
      masks = all.masks;
      regions = all.regions;
      holds = gives-fewer caches c.args.pass c.give_back.result (lease ∷ clip) all;
    }
