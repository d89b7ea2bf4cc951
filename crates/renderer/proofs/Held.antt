-- What a pass holds after calls in a row, in all three caches.
use Rattle.std.proofs.Common.{List}
use Rattle.cache_kinds.specs.Kinds.{composite_meaning, mask_meaning, region_meaning}
use Rattle.mask_keys.specs.Equality.{equal_composites, equal_masks, equal_regions}
use Rattle.mask_keys.proofs.Equal.{composite_same, mask_same, region_same}
use Rattle.mask_caches.specs.Caches.{AreLegal, AreNumbered, HasAllGivenBack, HoldsAsBefore}
use Rattle.mask_caches.specs.Holding.{pinned_keys}
use Rattle.mask_caches.specs.declared.caches.Caches.{Caches}
use Rattle.mask_caches.specs.declared.passes.CachesPass.{CachesPass}
use Rattle.mask_caches.proofs.Holding.{given-again, more-fewer, more-held, much-then}
use Rattle.renderer.specs.ShownFrames.{MaskLease}
use Rattle.renderer.specs.Holding.{HoldsLeases, HoldsLeasesFewer, HoldsLeasesMore}

module _ (caches : Caches) where
  pub leases-held : (p q : CachesPass) (leases : List MaskLease) → HoldsLeasesMore caches p q leases → HoldsLeases caches q leases
  leases-held p q leases f = more-held equal_composites composite_meaning caches.composites p.composites q.composites (pinned_keys leases) f.composites

  pub leases-given : (p q r : CachesPass) (leases : List MaskLease) → HoldsLeasesMore caches p q leases → HoldsLeasesFewer caches q r leases → HoldsAsBefore caches p r
  leases-given p q r leases f g = record {
    regions = much-then equal_regions region_meaning caches.regions p.regions q.regions r.regions f.regions g.regions;
    masks = much-then equal_masks mask_meaning caches.masks p.masks q.masks r.masks f.masks g.masks;
    composites = more-fewer equal_composites composite_meaning caches.composites p.composites q.composites r.composites (pinned_keys leases) f.composites g.composites;
  }

  pub nothing-again : (p q : CachesPass) → HasAllGivenBack caches p → HoldsAsBefore caches p q → AreNumbered caches → AreLegal caches q → HasAllGivenBack caches q
  nothing-again p q before same numbered legal = record {
    regions = given-again equal_regions region_same region_meaning caches.regions p.regions q.regions before.regions same.regions numbered.regions legal.regions;
    masks = given-again equal_masks mask_same mask_meaning caches.masks p.masks q.masks before.masks same.masks numbered.masks legal.masks;
    composites = given-again equal_composites composite_same composite_meaning caches.composites p.composites q.composites before.composites same.composites numbered.composites legal.composites;
  }
