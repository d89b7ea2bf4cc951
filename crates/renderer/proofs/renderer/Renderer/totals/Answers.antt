use Rattle.std.proofs.Common.{refl}
use Rattle.cache_kinds.specs.Kinds.{region_meaning}
use Rattle.flight_cache.proofs.Rows.{each_is_later}
use Rattle.mask_keys.specs.Equality.{equal_regions}
use Rattle.renderer.proofs.Together.{caches-together}
use Rattle.renderer.proofs.renderer.Renderer.totals.Goals as goal

pub invariant_of-pass : goal.invariant_of-pass
invariant_of-pass g c =
    let old = c.pass.inside.caches in let new = c.totals-caches.result.0 in
    caches-together c.pass.inside.track old new c.pass.invariant (each_is_later equal_regions region_meaning c.self.inside.caches.regions.shards old.regions new.regions _ c.totals-caches.ensures.regions)

pub returns : goal.returns
returns g c =
    let e = c.totals-caches.ensures in
    let of = rw (← c.self.view_is, ← c.pass.view_is) at c.requires in
    rw (← c.self.view_is, ← c.pass.view_is) (record {
      pass = record { track = of.track; caches = e.pass };
      track = refl;
      regions = e.regions;
      masks = e.masks;
      composites = e.composites;
      totals = e.totals;
      budgets = e.budgets;
      holds = e.holds;
    })
