-- Public: what is had of a value, and giving it back.
use Rattle.std.specs.Prelude.{◌≤◌, Bool, true, false, List, [], ◌∷◌}
use Rattle.std.specs.Arc.{arc_value}
use Rattle.evict_core.specs.Machine.{Step, Unpin}
use Rattle.flight_cache.specs.Meaning.{Meaning}
use Rattle.flight_cache.specs.Shards.{CacheView, CachePassView, IsHome}
use Rattle.mask_caches.specs.Adding.{pins_of}
use Rattle.mask_caches.specs.declared.lease.Lease.{Lease}
use Rattle.mask_caches.specs.declared.lease.Lease.TheVariants.{Pinned, Own}

-- the value of a lease
abbrev pub lease_value : {M K V T : Type 0} → Lease M K V T → V
lease_value (Pinned pin) = pin.value
lease_value (Own value) = arc_value value

-- the lease is a pin
abbrev pub is_pinned : {M K V T : Type 0} → Lease M K V T → Bool
is_pinned (Pinned pin) = true
is_pinned (Own value) = false

-- the steps of giving a lease back
abbrev pub given_steps : {M K V T : Type 0} → Lease M K V T → List (Step K V)
given_steps (Pinned pin) = Unpin pin.key ∷ []
given_steps (Own value) = []

-- the pass holds the pin of the lease, if that is one
abbrev pub HoldsLease : {M K V T : Type 0} → (K → K → Bool) → Meaning K V T → CacheView T → CachePassView K T → Lease M K V T → Type 0
HoldsLease eq meaning cache pass (Pinned pin) = 1 ≤ pins_of eq meaning cache pass pin.key
HoldsLease eq meaning cache pass (Own value) = Unit {0}

-- the lease, if it is a pin, is of the cache
abbrev pub IsHomeLease : {M K V T : Type 0} → Meaning K V T → CacheView T → Lease M K V T → Type 0
IsHomeLease meaning cache (Pinned pin) = IsHome meaning cache pin.key pin.cell
IsHomeLease meaning cache (Own value) = Unit {0}
