use Rattle.std.proofs.Common.{refl}
use Rattle.cache_kinds.specs.Kinds.{region_meaning}
use Rattle.flight_cache.proofs.HardSets.{each-set}
use Rattle.flight_cache.proofs.Rows.{each_is_later}
use Rattle.mask_keys.specs.Equality.{equal_regions}
use Rattle.renderer.proofs.Together.{caches-together}
use Rattle.renderer.proofs.renderer.Renderer.set_hard_limit.Goals as goal

pub invariant_of-pass : goal.invariant_of-pass
invariant_of-pass g c =
    let old = c.pass.inside.caches in let new = c.set_hard_limit-caches.result.0 in
    caches-together c.pass.inside.track old new c.pass.invariant
    (each_is_later equal_regions region_meaning c.self.inside.caches.regions.shards old.regions new.regions _
    (each-set equal_regions region_meaning c.self.inside.caches.regions.shards old.regions new.regions c.args.hard c.set_hard_limit-caches.result.1.regions c.set_hard_limit-caches.ensures.regions))

pub returns : goal.returns
returns g c =
    let e = c.set_hard_limit-caches.ensures in
    let of = rw (← c.self.view_is, ← c.pass.view_is) at c.requires.pass in
    rw (← c.self.view_is, ← c.pass.view_is) (record {
      pass = record { track = of.track; caches = e.pass };
      track = refl;
      regions = e.regions;
      masks = e.masks;
      composites = e.composites;
      holds = e.holds;
    })
