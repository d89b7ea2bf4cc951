-- Public: what holds of all that a pass has seen of the caches' shards.
use Rattle.std.specs.Prelude.{◌≡◌, ◌≤◌, ℕ, Bool, [], ◌∷◌, ◌++◌}
use Rattle.cache_kinds.specs.Kinds.{composite_meaning, mask_meaning, region_meaning}
use Rattle.evict_core.specs.History.{replay}
use Rattle.evict_core.specs.Laws.{IsEvictedWithin}
use Rattle.evict_core.specs.Machine.{Fill, Step, unpinned}
use Rattle.flight_cache.specs.Calls.{ShardPassView, ShardView}
use Rattle.flight_cache.specs.Histories.{IsLegalUnder, left_by, steps_in}
use Rattle.flight_cache.specs.Meaning.{Meaning}
use Rattle.flight_cache.specs.Shards.{CachePassView, CacheView}
use Rattle.mask_caches.specs.Caches.{AreNumbered}
use Rattle.mask_keys.specs.Equality.{equal_composites, equal_masks, equal_regions}
use Rattle.turn_cell.specs.History.{History}
use Rattle.renderer.specs.Passes.{RenderView, RendererView}

module _ {K V T : Type 0} (eq : K → K → Bool) (meaning : Meaning K V T) where
  -- What was seen of a shard is legal, leaves the unpinned cost within the budget, and has between two fills of a key an eviction of it.
  pub record IsKept (shard : ShardView T) (pass : ShardPassView K T) : Type 0 where
    pub legal : IsLegalUnder eq meaning shard.tag pass.seen
    pub within : unpinned (left_by eq meaning shard.tag pass.seen).entries ≤ (left_by eq meaning shard.tag pass.seen).budget
    pub once : (before between later : History (Step K V)) (m n : ℕ) (key : K) (c d : ℕ) (v w : V)
        → steps_in meaning shard.tag pass.seen ≡ before ++ (m, Fill key c v) ∷ (between ++ (n, Fill key d w) ∷ later)
        → IsEvictedWithin eq (replay eq shard.tag.entries shard.tag.budget (before ++ (m, Fill key c v) ∷ [])) between key

  -- so it is with each shard of a cache
  pub record AreShardsKept (cache : CacheView T) (pass : CachePassView K T) : Type 0 where
    pub first : IsKept cache.shards.first pass.first
    pub second : IsKept cache.shards.second pass.second
    pub third : IsKept cache.shards.third pass.third
    pub fourth : IsKept cache.shards.fourth pass.fourth

-- So it is with the twelve shards, which have their numbers.
pub record CachesAreKept (renderer : RendererView) (pass : RenderView) : Type 0 where
  pub numbered : AreNumbered renderer.caches
  pub regions : AreShardsKept equal_regions region_meaning renderer.caches.regions pass.caches.regions
  pub masks : AreShardsKept equal_masks mask_meaning renderer.caches.masks pass.caches.masks
  pub composites : AreShardsKept equal_composites composite_meaning renderer.caches.composites pass.caches.composites
