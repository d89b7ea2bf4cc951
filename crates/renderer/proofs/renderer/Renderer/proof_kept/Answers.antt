use Rattle.cache_kinds.specs.Kinds.{composite_meaning, mask_meaning, region_meaning}
use Rattle.mask_keys.specs.Equality.{equal_composites, equal_masks, equal_regions}
use Rattle.mask_keys.specs.contracts.composite_key.CompositeKeyEq.TheImpl.Laws as composite_laws
use Rattle.mask_keys.specs.contracts.mask_key.MaskKeyEq.TheImpl.Laws as mask_laws
use Rattle.mask_keys.specs.contracts.region_key.RegionKeyEq.TheImpl.Laws as region_laws
use Rattle.renderer.proofs.KnownShards.{shards-kept}
use Rattle.renderer.proofs.renderer.Renderer.proof_kept.Goals as goal

pub returns : goal.returns
returns c =
    let caches = c.self.inside.caches in let pass = c.pass.inside.caches in let legal = c.proof_legal.ensures.legal in
    rw (← c.self.view_is, ← c.pass.view_is) (record {
      numbered = c.proof_legal.ensures.numbered;
      regions = shards-kept equal_regions region_laws.laws-law region_meaning caches.regions pass.regions legal.regions;
      masks = shards-kept equal_masks mask_laws.laws-law mask_meaning caches.masks pass.masks legal.masks;
      composites = shards-kept equal_composites composite_laws.laws-law composite_meaning caches.composites pass.composites legal.composites;
    })
