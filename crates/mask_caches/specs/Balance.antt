-- Public: that all passes gave back what they took, and what the totals of a cache say then.
use Rattle.std.specs.Prelude.{◌≡◌, ℕ, ◌+◌, ◌≤◌, min, Bool, false, List, map}
use Rattle.turn_cell.specs.History.{History, entries_of}
use Rattle.evict_core.specs.Machine.{Step, last_count}
use Rattle.evict_core.specs.History.{pins_left, has_open}
use Rattle.evict_core.specs.declared.counts.Totals.{Totals}
use Rattle.flight_cache.specs.Meaning.{Meaning}
use Rattle.flight_cache.specs.Histories.{step_of}
use Rattle.flight_cache.specs.Shards.{CacheView, CachePassView, at}
use Rattle.flight_cache.specs.Laws.{IsLater}
use Rattle.flight_cache.specs.declared.kept.Entry.{Entry}
use Rattle.flight_cache.specs.declared.kept.Opening.{Opening}
use Rattle.mask_keys.specs.Equality.{equal_regions, equal_masks, equal_composites}
use Rattle.cache_kinds.specs.Kinds.{region_meaning, mask_meaning, composite_meaning}
use Rattle.mask_caches.specs.declared.caches.Caches.{Caches}
use Rattle.mask_caches.specs.declared.passes.CachesPass.{CachesPass}

-- Each claim was filled or failed, and what was evicted had been filled. A count stands at its last value once it reaches it.
pub record IsAccounted (totals : Totals) : Type 0 where
  pub claimed : totals.counts.claims ≡ min (totals.counts.fills + totals.counts.fails) last_count
  pub evicted : totals.counts.evictions ≤ totals.counts.fills

-- no pin that these steps took is left, and no claim of theirs is open
pub record GaveAllBack {K V : Type 0} (eq : K → K → Bool) (steps : List (Step K V)) : Type 0 where
  pub pins : (key : K) → pins_left eq steps key ≡ 0
  pub claims : (key : K) → has_open eq steps key ≡ false

module _ {K V T : Type 0} (eq : K → K → Bool) (meaning : Meaning K V T) where
  -- in the history of a shard the steps of each number gave back all that they took
  abbrev pub AllGaveBack : Opening T → History (Entry K) → Type 0
  AllGaveBack opening history = (n : ℕ) → GaveAllBack eq (map (step_of meaning opening) (entries_of n history))

  -- so it is in each shard, as far as the pass has seen
  abbrev pub EachAllGaveBack : CacheView T → CachePassView K T → Type 0
  EachAllGaveBack cache pass = (n : ℕ) → AllGaveBack (at cache.shards n).tag (at pass n).seen

-- and in each of the three caches
pub record AllCachesGaveBack (caches : Caches) (pass : CachesPass) : Type 0 where
  pub regions : EachAllGaveBack equal_regions region_meaning caches.regions pass.regions
  pub masks : EachAllGaveBack equal_masks mask_meaning caches.masks pass.masks
  pub composites : EachAllGaveBack equal_composites composite_meaning caches.composites pass.composites

-- the pass after calls that neither split nor join
pub record AreLater (pass after : CachesPass) : Type 0 where
  pub regions : IsLater pass.regions after.regions
  pub masks : IsLater pass.masks after.masks
  pub composites : IsLater pass.composites after.composites
