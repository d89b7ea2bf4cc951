use Rattle.std.proofs.Common.{[], ◌∷◌}
use Rattle.renderer.proofs.GivenLeases.{gives-fewer, gives-none, gives-one, lease-held}
use Rattle.cache_kinds.specs.Kinds.{composite_meaning}
use Rattle.mask_caches.specs.Leases.{IsHomeLease}
use Rattle.std.proofs.lemmas.List.Elements.{All-head}
use Rattle.renderer.proofs.releasing.release_clip.Goals as goal

pub give_back-requires-clause-own : goal.give_back-requires-clause-own
give_back-requires-clause-own g c = All-head (IsHomeLease composite_meaning c.args.caches.now.composites) c.in-Drawn.mask [] (rw c.in-Drawn.is at c.requires.own)

pub give_back-requires-clause-held : goal.give_back-requires-clause-held
give_back-requires-clause-held g c = lease-held c.args.caches.now c.args.pass c.in-Drawn.mask (rw c.in-Drawn.is at c.requires.held)

pub returns-in-Free : goal.returns-in-Free
returns-in-Free g c =
    let none = gives-none c.args.caches.now c.args.pass in
    rw c.in-Free.is (record {
      pass = c.requires.pass;
      composites = none.composites;
      masks = none.masks;
      regions = none.regions;
      holds = gives-fewer c.args.caches.now c.args.pass c.args.pass [] none;
    })

pub returns-in-Rect : goal.returns-in-Rect
returns-in-Rect g c =
    let none = gives-none c.args.caches.now c.args.pass in
    rw c.in-Rect.is (record {
      pass = c.requires.pass;
      composites = none.composites;
      masks = none.masks;
      regions = none.regions;
      holds = gives-fewer c.args.caches.now c.args.pass c.args.pass [] none;
    })

pub returns-in-Drawn : goal.returns-in-Drawn
returns-in-Drawn g c =
    let f = c.give_back.ensures in
    let one = gives-one c.args.caches.now c.args.pass c.give_back.result c.in-Drawn.mask f.composites f.masks f.regions in
    rw c.in-Drawn.is (record {
      pass = f.pass;
      composites = one.composites;
      masks = one.masks;
      regions = one.regions;
      holds = gives-fewer c.args.caches.now c.args.pass c.give_back.result (c.in-Drawn.mask ∷ []) one;
    })
