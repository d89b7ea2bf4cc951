-- Passes that have no claim open.
use Rattle.std.proofs.Common.{◌≡◌, ℕ, ◌<◌, ◌||◌, Bool, true, false, Option, Some, None, Result, Ok, Err, refl, sym, ap, ◌∙◌, subst, arith}
use Rattle.std.specs.Prelude.{if◌then◌else◌}
use Rattle.std.specs.Result.{IfOk}
use Rattle.std.specs.declared.sync.Arc.{Arc}
use Rattle.bdf_font.specs.declared.sets.FontSet.{FontSet}
use Rattle.turn_cell.specs.Passes.{split_pass}
use Rattle.evict_core.specs.History.{has_open}
use Rattle.cache_kinds.specs.Kinds.{is_widened, region_meaning, region_rank}
use Rattle.flight_cache.specs.Calls.{ShardPassView, ShardView, TicketView, own_steps}
use Rattle.flight_cache.specs.Meaning.{Meaning, shard_of}
use Rattle.flight_cache.specs.Shards.{CachePassView, CacheView, EachGaveAsMuch, EachHasGivenBack, HasLowerOpen, each}
use Rattle.flight_cache.proofs.Four.{at-each}
use Rattle.flight_cache.proofs.Refusing.{below-four}
use Rattle.mask_keys.specs.Equality.{equal_regions}
use Rattle.mask_keys.specs.declared.region_key.RegionKey.{RegionKey}
use Rattle.mask_keys.proofs.Equal.{region_same}
use Rattle.mask_caches.specs.Adding.{Adds, IsFree, is_open}
use Rattle.mask_caches.specs.Caches.{AreFree, HoldsAsBefore, IsNewCache}
use Rattle.mask_caches.specs.Courses.{duty_steps}
use Rattle.mask_caches.specs.Leases.{given_steps}
use Rattle.mask_caches.specs.Visits.{HasWidenedOpen}
use Rattle.mask_caches.specs.declared.caches.Caches.{Caches}
use Rattle.mask_caches.specs.declared.lease.Lease.{Lease}
use Rattle.mask_caches.specs.declared.lease.Lease.TheVariants.{Own, Pinned}
use Rattle.mask_caches.specs.declared.passes.CachesPass.{CachesPass}
use Rattle.mask_caches.proofs.Cells.{new-given}
use Rattle.mask_caches.proofs.Visiting.{false-true}

module _ {K V T : Type 0} (eq : K → K → Bool) (meaning : Meaning K V T) (cache : CacheView T) where
  -- a lease that is given back
  pub given-free : {M : Type 0} (lease : Lease M K V T) (p q : CachePassView K T) → Adds eq meaning cache p q (given_steps lease) → IsFree eq meaning cache p → IsFree eq meaning cache q
  given-free (Pinned pin) p q adds free = λ k. adds.claims k ∙ free k
  given-free (Own value) p q adds free = λ k. adds.claims k ∙ free k

  -- what a pass gave is what another did
  pub gave-free : (p q : CachePassView K T) → EachGaveAsMuch meaning cache.shards p q → IsFree eq meaning cache p → IsFree eq meaning cache q
  gave-free p q gave free = λ k.
      at-each (λ (s : ShardView T) (a b : ShardPassView K T). has_open eq (own_steps meaning s.tag b) k ≡ has_open eq (own_steps meaning s.tag a) k) cache.shards p q
      (ap (λ l. has_open eq l k) gave.first) (ap (λ l. has_open eq l k) gave.second) (ap (λ l. has_open eq l k) gave.third) (ap (λ l. has_open eq l k) gave.fourth)
      (shard_of (meaning.numbers k)) (below-four (meaning.numbers k)) ∙ free k

  -- a pass without claims may wait for whatever key
  pub free-lower : (p : CachePassView K T) (key : K) → IsFree eq meaning cache p → HasLowerOpen eq meaning cache p key
  free-lower p key free = λ other claimed. absurd (false-true (sym (free other) ∙ claimed))

  pub split-free : (p q : CachePassView K T) → q ≡ each split_pass p → IsFree eq meaning cache p → IsFree eq meaning cache q
  split-free p q is free = gave-free p q (subst (λ (r : CachePassView K T). EachGaveAsMuch meaning cache.shards p r) (sym is) (record { first = refl; second = refl; third = refl; fourth = refl })) free

  pub back-free : (p : CachePassView K T) → EachHasGivenBack eq meaning cache.shards p → IsFree eq meaning cache p
  back-free p given = λ k.
      at-each (λ (s : ShardView T) (a b : ShardPassView K T). has_open eq (own_steps meaning s.tag b) k ≡ false) cache.shards p p
      (given.first.claims k) (given.second.claims k) (given.third.claims k) (given.fourth.claims k)
      (shard_of (meaning.numbers k)) (below-four (meaning.numbers k))

  pub new-free : (p : CachePassView K T) (budget : ℕ) → IsNewCache cache p budget → IsFree eq meaning cache p
  new-free p budget new = back-free p (new-given eq meaning cache p budget new)

module _ {K V T E : Type 0} (eq : K → K → Bool) (meaning : Meaning K V T) where
  pub opened-free : (result : Result (CacheView T × CachePassView K T) E) (budget : ℕ) → IfOk result (λ r. IsNewCache r.0 r.1 budget) → IfOk result (λ r. IsFree eq meaning r.0 r.1)
  opened-free (Ok r) budget new = new-free eq meaning r.0 r.1 budget new
  opened-free (Err e) budget new = tt

-- what holds as much in each cache
pub free-before : (caches : Caches) (p q : CachesPass) → HoldsAsBefore caches p q → AreFree caches p → AreFree caches q
free-before caches p q same free = record {
  regions = λ k. same.regions.claims k ∙ free.regions k;
  masks = λ k. same.masks.claims k ∙ free.masks k;
  composites = λ k. same.composites.claims k ∙ free.composites k;
}

or-none : (b : Bool) → (b || false) ≡ true → b ≡ true
or-none true e = refl
or-none false e = e

lower-by : (one other : Bool) → one ≡ true → other ≡ false → (if one then 0 else 1) < (if other then 0 else 1)
lower-by true false e plain = omega arith
lower-by true true e plain = absurd (false-true (sym plain))
lower-by false other e plain = absurd (false-true e)

module _ {Z : Type 0} (cache : CacheView (Arc FontSet Z)) where
  -- one with claims of widened regions alone may wait for an outline
  pub widened-lower : (p : CachePassView RegionKey (Arc FontSet Z)) (key : RegionKey) → is_widened key ≡ false → HasWidenedOpen cache p → HasLowerOpen equal_regions region_meaning cache p key
  widened-lower p key outline wide = λ other claimed. lower-by (is_widened other) (is_widened key) (wide other claimed) outline

  -- a pass without claims may ask for an outline
  pub free-regions : (p : CachePassView RegionKey (Arc FontSet Z)) → IsFree equal_regions region_meaning cache p → HasWidenedOpen cache p
  free-regions p free = λ k claimed. absurd (false-true (sym (free k) ∙ claimed))

  -- and also once it has claimed a widened region
  pub widened-open : (key : RegionKey) (p q : CachePassView RegionKey (Arc FontSet Z)) (duty : Option (TicketView RegionKey)) → IsFree equal_regions region_meaning cache p
      → Adds equal_regions (region_meaning {Z = Z}) cache p q (duty_steps (region_meaning {Z = Z}) key duty) → is_widened key ≡ true → HasWidenedOpen cache q
  widened-open key p q (Some ticket) free asks wide = λ k now.
      let claimed : (equal_regions k key || is_open equal_regions region_meaning cache p k) ≡ true = sym (asks.claims k) ∙ now in
      let here = or-none (equal_regions k key) (subst (λ (b : Bool). (equal_regions k key || b) ≡ true) (free k) claimed) in
      subst (λ (x : RegionKey). is_widened x ≡ true) (sym (region_same k key here)) wide
  widened-open key p q None free asks wide = λ k now. absurd (false-true (sym (asks.claims k ∙ free k) ∙ now))
