use Rattle.std.proofs.Common.{refl}
use Rattle.cache_kinds.specs.Kinds.{region_meaning}
use Rattle.flight_cache.proofs.Rows.{each_is_later}
use Rattle.mask_keys.specs.Equality.{equal_regions}
use Rattle.renderer.proofs.Together.{caches-together}
use Rattle.renderer.proofs.renderer.Renderer.set_limits.Goals as goal

pub invariant_of-result : goal.invariant_of-result
invariant_of-result g c =
    let old = c.pass.inside.caches in let new = c.set_budgets-caches.result in
    caches-together c.pass.inside.track old new c.pass.invariant (each_is_later equal_regions region_meaning c.self.inside.caches.regions.shards old.regions new.regions _ c.set_budgets-caches.ensures.regions)

pub returns : goal.returns
returns g c =
    let e = c.set_budgets-caches.ensures in
    let of = rw (← c.self.view_is, ← c.pass.view_is) at c.requires.pass in
    rw (← c.self.view_is, ← c.pass.view_is) (record {
      pass = record { track = of.track; caches = e.pass };
      track = refl;
      regions = e.regions;
      masks = e.masks;
      composites = e.composites;
      holds = e.holds;
    })
