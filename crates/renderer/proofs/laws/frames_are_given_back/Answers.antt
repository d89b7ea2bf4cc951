use Rattle.cache_kinds.specs.Kinds.{composite_meaning, mask_meaning, region_meaning}
use Rattle.mask_keys.specs.Equality.{equal_composites, equal_masks, equal_regions}
use Rattle.renderer.specs.ShownFrames.{leases_of}
use Rattle.renderer.proofs.Held.{leases-given, leases-held, nothing-again}
use Rattle.renderer.proofs.KnownShards.{shards-legal}
use Rattle.renderer.proofs.laws.frames_are_given_back.Goals as goal
use Rattle.mask_caches.proofs.KeysWarmed.{before-then}

pub returns-clause-holds : goal.returns-clause-holds
returns-clause-holds c = λ renderer pass after frame f. leases-held renderer.caches pass.caches after.caches (leases_of frame.images) f

pub returns-clause-released : goal.returns-clause-released
returns-clause-released c = λ renderer pass held after frame f g. leases-given renderer.caches pass.caches held.caches after.caches (leases_of frame.images) f g

pub returns-clause-again : goal.returns-clause-again
returns-clause-again c = λ renderer p q r f g. before-then renderer.caches p.caches q.caches r.caches f g

pub returns-clause-nothing : goal.returns-clause-nothing
returns-clause-nothing c = λ renderer pass after before same kept.
    nothing-again renderer.caches pass.caches after.caches before same kept.numbered record {
      regions = shards-legal equal_regions region_meaning renderer.caches.regions after.caches.regions kept.regions;
      masks = shards-legal equal_masks mask_meaning renderer.caches.masks after.caches.masks kept.masks;
      composites = shards-legal equal_composites composite_meaning renderer.caches.composites after.caches.composites kept.composites;
    }
