-- Public: the three caches with their passes, and what calls make of them.
use Rattle.std.specs.Prelude.{◌≡◌, ℕ, Bool, List, ◌∷◌, []}
use Rattle.turn_cell.specs.Passes.{first_pass, split_pass, new_pass, joined_pass}
use Rattle.evict_core.specs.Asked.{totals_of}
use Rattle.evict_core.specs.declared.counts.Totals.{Totals}
use Rattle.flight_cache.specs.Meaning.{Meaning}
use Rattle.flight_cache.specs.Histories.{left_by}
use Rattle.flight_cache.specs.Shards.{CacheView, CachePassView, IsCacheOf, AreShardsOf, EachHasGivenBack, EachIsLegal, EachGaveAsMuch, EachBegins, EachIsBelow, EachExtends, HasLimits, HasNothing, each, both, sum_of_totals}
use Rattle.mask_keys.specs.Equality.{equal_regions, equal_masks, equal_composites}
use Rattle.cache_kinds.specs.Kinds.{region_meaning, mask_meaning, composite_meaning}
use Rattle.cache_kinds.specs.Limits.{entry_limit}
use Rattle.mask_caches.specs.Adding.{HoldsAsMuch, IsFree}
use Rattle.mask_caches.specs.declared.caches.Caches.{Caches}
use Rattle.mask_caches.specs.declared.passes.CachesPass.{CachesPass}

-- the pass has no claim open in any cache
pub record AreFree (caches : Caches) (pass : CachesPass) : Type 0 where
  pub regions : IsFree equal_regions region_meaning caches.regions pass.regions
  pub masks : IsFree equal_masks mask_meaning caches.masks pass.masks
  pub composites : IsFree equal_composites composite_meaning caches.composites pass.composites

-- The pass comes from the caches, and nobody waits for it: so it is between calls.
pub record IsPassOf (caches : Caches) (pass : CachesPass) : Type 0 where
  pub regions : IsCacheOf caches.regions pass.regions
  pub masks : IsCacheOf caches.masks pass.masks
  pub composites : IsCacheOf caches.composites pass.composites
  pub free : AreFree caches pass

-- one pass is what the other was
pub record IsSamePass (pass after : CachesPass) : Type 0 where
  pub regions : after.regions ≡ pass.regions
  pub masks : after.masks ≡ pass.masks
  pub composites : after.composites ≡ pass.composites

-- the pass holds no pin and has no claim open
pub record HasAllGivenBack (caches : Caches) (pass : CachesPass) : Type 0 where
  pub regions : EachHasGivenBack equal_regions region_meaning caches.regions.shards pass.regions
  pub masks : EachHasGivenBack equal_masks mask_meaning caches.masks.shards pass.masks
  pub composites : EachHasGivenBack equal_composites composite_meaning caches.composites.shards pass.composites

-- the pass holds in each cache what it held before, and has open what it had before
pub record HoldsAsBefore (caches : Caches) (pass after : CachesPass) : Type 0 where
  pub regions : HoldsAsMuch equal_regions region_meaning caches.regions pass.regions after.regions
  pub masks : HoldsAsMuch equal_masks mask_meaning caches.masks pass.masks after.masks
  pub composites : HoldsAsMuch equal_composites composite_meaning caches.composites pass.composites after.composites

-- the pass holds nothing where it holds what one did that held nothing
abbrev pub HoldsNothingAgain : Caches → CachesPass → Type 0
HoldsNothingAgain caches after = (pass : CachesPass) → HasAllGivenBack caches pass → HoldsAsBefore caches pass after → HasAllGivenBack caches after

-- what the pass has seen of each shard is legal
pub record AreLegal (caches : Caches) (pass : CachesPass) : Type 0 where
  pub regions : EachIsLegal equal_regions region_meaning caches.regions.shards pass.regions
  pub masks : EachIsLegal equal_masks mask_meaning caches.masks.shards pass.masks
  pub composites : EachIsLegal equal_composites composite_meaning caches.composites.shards pass.composites

-- the shards of each cache have their numbers, and its tag
pub record AreNumbered (caches : Caches) : Type 0 where
  pub regions : AreShardsOf caches.regions.tag caches.regions.shards
  pub masks : AreShardsOf caches.masks.tag caches.masks.shards
  pub composites : AreShardsOf caches.composites.tag caches.composites.shards

-- a new cache: its shards have their numbers, its tag and their parts of the limits, and the pass is the first one
pub record IsNewCache {K T : Type 0} (cache : CacheView T) (pass : CachePassView K T) (budget : ℕ) : Type 0 where
  pub shards : AreShardsOf cache.tag cache.shards
  pub limits : HasLimits cache.shards (entry_limit budget) budget
  pub pass_is : pass ≡ each first_pass cache.shards

-- each of the caches is new, with the whole budget
pub record AreNew (caches : Caches) (pass : CachesPass) (budget : ℕ) : Type 0 where
  pub regions : IsNewCache caches.regions pass.regions budget
  pub masks : IsNewCache caches.masks pass.masks budget
  pub composites : IsNewCache caches.composites pass.composites budget

-- a pass of one cache is split: into itself with one number drawn more, and a new one that gave nothing
pub record IsSplitIn {K V T : Type 0} (meaning : Meaning K V T) (cache : CacheView T) (pass first new : CachePassView K T) : Type 0 where
  pub first_is : first ≡ each split_pass pass
  pub new_is : new ≡ each new_pass pass
  pub nothing : HasNothing meaning cache.shards new
  pub new_below : EachIsBelow (λ p. p.number) new
  pub first_below : EachIsBelow (λ p. p.next) first

pub record IsSplit (caches : Caches) (pass first new : CachesPass) : Type 0 where
  pub regions : IsSplitIn region_meaning caches.regions pass.regions first.regions new.regions
  pub masks : IsSplitIn mask_meaning caches.masks pass.masks first.masks new.masks
  pub composites : IsSplitIn composite_meaning caches.composites pass.composites first.composites new.composites

-- two passes of one cache are joined: the first has seen what both had, and gave what it gave before
pub record IsJoinedIn {K V T : Type 0} (meaning : Meaning K V T) (cache : CacheView T) (pass other joined : CachePassView K T) : Type 0 where
  pub is : joined ≡ both joined_pass pass other
  pub begins : EachBegins pass joined
  pub begins_other : EachBegins other joined
  pub own : EachGaveAsMuch meaning cache.shards pass joined
  pub itself : EachExtends joined

pub record AreJoined (caches : Caches) (pass other joined : CachesPass) : Type 0 where
  pub regions : IsJoinedIn region_meaning caches.regions pass.regions other.regions joined.regions
  pub masks : IsJoinedIn mask_meaning caches.masks pass.masks other.masks joined.masks
  pub composites : IsJoinedIn composite_meaning caches.composites pass.composites other.composites joined.composites

-- the totals that the turns of a cache's shards showed
abbrev pub shown_totals : {K V T : Type 0} → (K → K → Bool) → Meaning K V T → CacheView T → CachePassView K T → Totals
shown_totals eq meaning cache after = sum_of_totals (both (λ shard own. totals_of (left_by eq meaning shard.tag own.seen)) cache.shards after)

-- those of the three, the regions first
abbrev pub all_totals : Caches → CachesPass → List Totals
all_totals caches after =
    shown_totals equal_regions region_meaning caches.regions after.regions
    ∷ shown_totals equal_masks mask_meaning caches.masks after.masks
    ∷ shown_totals equal_composites composite_meaning caches.composites after.composites
    ∷ []
