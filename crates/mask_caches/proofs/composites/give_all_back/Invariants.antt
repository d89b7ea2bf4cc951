use Rattle.std.proofs.Common.{vec_len, All}
use Rattle.flight_cache.specs.Shards.{IsCacheOf}
use Rattle.cache_kinds.specs.Kinds.{mask_meaning}
use Rattle.mask_keys.specs.Equality.{equal_masks}
use Rattle.mask_keys.specs.contracts.mask_key.MaskKeyEq.TheImpl.Laws as mask_laws
use Rattle.mask_caches.proofs.Releasing.{AreReleased}
use Rattle.mask_caches.specs.Leases.{IsHomeLease}
use Rattle.mask_caches.proofs.composites.give_all_back.Given as goal

abbrev pub invariant-loop-lease : goal.invariant-loop-lease
invariant-loop-lease g l = IsCacheOf l.cache l.pass × AreReleased equal_masks mask_laws.laws-law mask_meaning l.cache l.fn.pass l.fn.leases.items l.pass l.leases.items
    × All (IsHomeLease mask_meaning l.cache) l.leases.items

abbrev pub decreases-loop-lease : goal.decreases-loop-lease
decreases-loop-lease g l = vec_len l.leases
