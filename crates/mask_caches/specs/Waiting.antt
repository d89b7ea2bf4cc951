-- Public: what calls wait for, and that none wait for one another in a ring.
use Rattle.std.specs.Prelude.{◌≡◌, true, List, [], ◌∷◌, ◌++◌, All}
use Rattle.flight_cache.specs.Shards.{HasLowerOpen}
use Rattle.mask_keys.specs.Equality.{equal_regions, equal_masks, equal_composites}
use Rattle.mask_keys.specs.declared.composite_key.CompositeKey.{CompositeKey}
use Rattle.mask_keys.specs.declared.mask_key.MaskKey.{MaskKey}
use Rattle.mask_keys.specs.declared.region_key.RegionKey.{RegionKey}
use Rattle.cache_kinds.specs.Kinds.{region_meaning, mask_meaning, composite_meaning}
use Rattle.mask_caches.specs.Adding.{IsFree, is_open}
use Rattle.mask_caches.specs.Caches.{AreFree}
use Rattle.mask_caches.specs.declared.caches.Caches.{Caches}
use Rattle.mask_caches.specs.declared.passes.CachesPass.{CachesPass}

-- what an ask waits for: a composed mask, a mask or a region that another makes
pub data Sought : Type 0 where
  ForComposite : CompositeKey → Sought
  ForMask : MaskKey → Sought
  ForRegion : RegionKey → Sought

-- an ask that waits, by its passes
pub record Waiter : Type 0 where
  pub pass : CachesPass
  pub sought : Sought

module _ (caches : Caches) where
  -- What the asks require of who may wait: no claim is open in the cache of what is sought, nor in one of those behind it. For an outline claims of widened regions may be
  abbrev pub MayWait : CachesPass → Sought → Type 0
  MayWait pass (ForComposite key) = AreFree caches pass
  MayWait pass (ForMask key) = IsFree equal_masks mask_meaning caches.masks pass.masks × IsFree equal_regions region_meaning caches.regions pass.regions
  MayWait pass (ForRegion key) = HasLowerOpen equal_regions region_meaning caches.regions pass.regions key

  -- the pass has the claim of what is sought open
  abbrev pub Makes : CachesPass → Sought → Type 0
  Makes pass (ForComposite key) = is_open equal_composites composite_meaning caches.composites pass.composites key ≡ true
  Makes pass (ForMask key) = is_open equal_masks mask_meaning caches.masks pass.masks key ≡ true
  Makes pass (ForRegion key) = is_open equal_regions region_meaning caches.regions pass.regions key ≡ true

  -- each waits for what the next one makes
  abbrev pub IsChain : Waiter → List Waiter → Type 0
  IsChain w [] = Unit {0}
  IsChain w (next ∷ later) = Makes next.pass w.sought × IsChain next later

-- asks of the three caches that may wait don't wait for one another in a ring, however many they are
abbrev pub NoRing : Type 0
NoRing = (caches : Caches) (w : Waiter) (others : List Waiter) → All (λ v. MayWait caches v.pass v.sought) (w ∷ others) → IsChain caches w (others ++ w ∷ []) → ⊥
