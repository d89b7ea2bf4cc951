-- Public: leases that were had all at once.
use Rattle.std.specs.Prelude.{◌≡◌, Bool, List, map}
use Rattle.flight_cache.specs.Meaning.{Meaning}
use Rattle.flight_cache.specs.Calls.{PinView}
use Rattle.flight_cache.specs.Shards.{CacheView, CachePassView}
use Rattle.flight_cache.specs.Pinning.{IsPinnedAll}
use Rattle.mask_caches.specs.Adding.{HoldsMore}
use Rattle.mask_caches.specs.declared.lease.Lease.{Lease}
use Rattle.mask_caches.specs.declared.lease.Lease.TheVariants.{Pinned}

module _ {M K V T : Type 0} (eq : K → K → Bool) (meaning : Meaning K V T) (cache : CacheView T) (pass : CachePassView K T) (keys : List K) (after : CachePassView K T) where
  -- each lease is a pin, with the key at its place and that key's value; the pass holds a pin more for each place of a key
  pub record ArePinned (leases : List (Lease M K V T)) : Type 0 where
    pub pins : List (PinView K V)
    pub are : leases ≡ map Pinned pins
    pub pinned : IsPinnedAll eq meaning cache pass keys after pins
    pub holds : HoldsMore eq meaning cache pass after keys
