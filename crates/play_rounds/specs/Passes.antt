-- Public: the first pass of a renderer and those that are split off it and joined again.
use Rattle.std.specs.Prelude.{◌≡◌, ℕ, ◌<◌, Bool, Some}
use Rattle.cache_kinds.specs.Kinds.{composite_meaning, mask_meaning, region_meaning}
use Rattle.mask_caches.specs.Balance.{AllGaveBack}
use Rattle.flight_cache.specs.Calls.{ShardPassView, ShardView}
use Rattle.flight_cache.specs.Meaning.{Meaning}
use Rattle.flight_cache.specs.Shards.{CachePassView, CacheView, at}
use Rattle.mask_keys.specs.Equality.{equal_composites, equal_masks, equal_regions}
use Rattle.renderer.specs.Holding.{HoldsTheSame}
use Rattle.renderer.specs.Passes.{HoldsNothing, IsFirstPass, IsPassOfRenderer, RenderView, RendererView}
use Rattle.turn_cell.specs.Passes.{Extends, IsWholePass}
use Rattle.play_model.specs.Joining.{ArePassesJoined, ArePassesSplit}
use Rattle.play_workers.specs.declared.worker.Worker.{Worker}

-- ---- of a cache

module _ {K T : Type 0} where
  -- the first pass of each shard after so many passes were split off it
  abbrev pub AreCachePassesSplit : CachePassView K T → ℕ → (ℕ → CachePassView K T) → CachePassView K T → Type 0
  AreCachePassesSplit before count passes after = (n : ℕ) → ArePassesSplit (at before n) count (λ i. at (passes i) n) (at after n)

  -- the first pass of each shard after it took in so many passes
  abbrev pub AreCachePassesJoined : CachePassView K T → ℕ → (ℕ → CachePassView K T) → CachePassView K T → Type 0
  AreCachePassesJoined before count passes after = (n : ℕ) → ArePassesJoined (at before n) count (λ i. at (passes i) n) (at after n)

  -- what the pass of each shard has seen goes on from what it knows
  abbrev pub EachExtendsItself : CachePassView K T → Type 0
  EachExtendsItself pass = (n : ℕ) → Extends (at pass n) (at pass n).seen

module _ {K V T : Type 0} (eq : K → K → Bool) (meaning : Meaning K V T) where
  -- All other passes of the shard are joined into the first one, so it knows the whole history, in which each number gave back all that it took.
  pub record IsShardHome (shard : ShardView T) (pass : ShardPassView K T) : Type 0 where
    pub number : pass.number ≡ 0
    pub some : 0 < pass.next
    pub itself : Extends pass pass.seen
    pub whole : IsWholePass pass
    pub given : AllGaveBack eq meaning shard.tag pass.seen

  -- so it is in each shard of a cache
  abbrev pub IsCacheHome : CacheView T → CachePassView K T → Type 0
  IsCacheHome cache pass = (n : ℕ) → IsShardHome (at cache.shards n) (at pass n)

-- ---- of a renderer

-- The first pass of a renderer after so many passes were split off it, which hold nothing.
pub record AreRendersSplit (renderer : RendererView) (before : RenderView) (count : ℕ) (passes : ℕ → RenderView) (after : RenderView) : Type 0 where
  pub track : ArePassesSplit before.track count (λ i. (passes i).track) after.track
  pub regions : AreCachePassesSplit before.caches.regions count (λ i. (passes i).caches.regions) after.caches.regions
  pub masks : AreCachePassesSplit before.caches.masks count (λ i. (passes i).caches.masks) after.caches.masks
  pub composites : AreCachePassesSplit before.caches.composites count (λ i. (passes i).caches.composites) after.caches.composites
  pub each_of : (i : ℕ) → i < count → IsPassOfRenderer renderer (passes i)
  pub nothing : (i : ℕ) → i < count → HoldsNothing renderer (passes i)

-- The first pass of a renderer after it took in so many passes, which held nothing.
pub record AreRendersJoined (renderer : RendererView) (before : RenderView) (count : ℕ) (passes : ℕ → RenderView) (after : RenderView) : Type 0 where
  pub track : ArePassesJoined before.track count (λ i. (passes i).track) after.track
  pub regions : AreCachePassesJoined before.caches.regions count (λ i. (passes i).caches.regions) after.caches.regions
  pub masks : AreCachePassesJoined before.caches.masks count (λ i. (passes i).caches.masks) after.caches.masks
  pub composites : AreCachePassesJoined before.caches.composites count (λ i. (passes i).caches.composites) after.caches.composites
  pub nothing : (i : ℕ) → i < count → HoldsNothing renderer (passes i)

-- What the pass has seen of the track and of each shard goes on from what it knows.
pub record ExtendsItself (pass : RenderView) : Type 0 where
  pub track : Extends pass.track pass.track.seen
  pub regions : EachExtendsItself pass.caches.regions
  pub masks : EachExtendsItself pass.caches.masks
  pub composites : EachExtendsItself pass.caches.composites

-- What holds of the first pass of a play between two rounds: all other passes are joined, so it knows the whole history of the track and of each shard.
pub record IsAllJoined (renderer : RendererView) (first : RenderView) : Type 0 where
  pub is_of : IsPassOfRenderer renderer first
  pub number : IsFirstPass first
  pub some : 0 < first.track.next
  pub itself : Extends first.track first.track.seen
  pub whole : IsWholePass first.track
  pub regions : IsCacheHome equal_regions region_meaning renderer.caches.regions first.caches.regions
  pub masks : IsCacheHome equal_masks mask_meaning renderer.caches.masks first.caches.masks
  pub composites : IsCacheHome equal_composites composite_meaning renderer.caches.composites first.caches.composites

-- the worker has a pass that holds as much as one that holds nothing
pub record HasIdlePass (renderer : RendererView) (worker : Worker) : Type 0 where
  pub pass : RenderView
  pub is : worker.pass ≡ Some pass
  pub is_of : IsPassOfRenderer renderer pass
  pub begun : RenderView
  pub nothing : HoldsNothing renderer begun
  pub same : HoldsTheSame renderer begun pass
