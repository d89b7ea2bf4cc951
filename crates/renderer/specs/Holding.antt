-- Public: the pins that a pass holds for frames.
use Rattle.std.specs.Prelude.{List, Result, Ok, Err, All}
use Rattle.cache_kinds.specs.Kinds.{composite_meaning, mask_meaning, region_meaning}
use Rattle.flight_cache.specs.Shards.{HoldsEach}
use Rattle.mask_caches.specs.Adding.{HoldsAsMuch}
use Rattle.mask_caches.specs.Caches.{HoldsAsBefore}
use Rattle.mask_caches.specs.Adding.{HoldsFewer, HoldsMore}
use Rattle.mask_caches.specs.Holding.{pinned_keys}
use Rattle.mask_caches.specs.declared.caches.Caches.{Caches}
use Rattle.mask_caches.specs.declared.passes.CachesPass.{CachesPass}
use Rattle.mask_keys.specs.Equality.{equal_composites, equal_masks, equal_regions}
use Rattle.renderer.specs.ShownFrames.{MaskLease, leases_of}
use Rattle.renderer.specs.declared.frames.Frame.{Frame}
use Rattle.renderer.specs.Passes.{RenderView, RendererView}
use Rattle.mask_caches.specs.Leases.{IsHomeLease}

-- the pass holds a pin for each of the leases that is one
abbrev pub HoldsLeases : Caches → CachesPass → List MaskLease → Type 0
HoldsLeases caches pass leases = HoldsEach equal_composites composite_meaning caches.composites pass.composites (pinned_keys leases)

-- each of the leases that is a pin is of the cache of composed masks
abbrev pub AreHome : Caches → List MaskLease → Type 0
AreHome caches leases = All (IsHomeLease composite_meaning caches.composites) leases

module _ (caches : Caches) (pass after : CachesPass) where
  -- the pass holds just the pins of the leases more, all in the cache of composed masks
  pub record HoldsLeasesMore (leases : List MaskLease) : Type 0 where
    pub composites : HoldsMore equal_composites composite_meaning caches.composites pass.composites after.composites (pinned_keys leases)
    pub masks : HoldsAsMuch equal_masks mask_meaning caches.masks pass.masks after.masks
    pub regions : HoldsAsMuch equal_regions region_meaning caches.regions pass.regions after.regions

  -- just these less
  pub record HoldsLeasesFewer (leases : List MaskLease) : Type 0 where
    pub composites : HoldsFewer equal_composites composite_meaning caches.composites pass.composites after.composites (pinned_keys leases)
    pub masks : HoldsAsMuch equal_masks mask_meaning caches.masks pass.masks after.masks
    pub regions : HoldsAsMuch equal_regions region_meaning caches.regions pass.regions after.regions

-- ---- of a renderer

abbrev pub HoldsFrame : RendererView → RenderView → Frame → Type 0
HoldsFrame renderer pass frame = HoldsLeases renderer.caches pass.caches (leases_of frame.images)

-- the frame's pins are the renderer's
abbrev pub IsHomeFrame : RendererView → Frame → Type 0
IsHomeFrame renderer frame = AreHome renderer.caches (leases_of frame.images)

abbrev pub HoldsTheSame : RendererView → RenderView → RenderView → Type 0
HoldsTheSame renderer pass after = HoldsAsBefore renderer.caches pass.caches after.caches

-- the pass holds just the frame's pins more
abbrev pub HoldsFrameMore : RendererView → RenderView → RenderView → Frame → Type 0
HoldsFrameMore renderer pass after frame = HoldsLeasesMore renderer.caches pass.caches after.caches (leases_of frame.images)

-- just these less
abbrev pub HoldsFrameFewer : RendererView → RenderView → RenderView → Frame → Type 0
HoldsFrameFewer renderer pass after frame = HoldsLeasesFewer renderer.caches pass.caches after.caches (leases_of frame.images)

-- just a frame's pins more where there is one, else what it held before
abbrev pub HoldsJustTheFrame : {E : Type 0} → RendererView → RenderView → RenderView → Result Frame E → Type 0
HoldsJustTheFrame renderer pass after (Ok frame) = HoldsFrameMore renderer pass after frame
HoldsJustTheFrame renderer pass after (Err refused) = HoldsTheSame renderer pass after
