use Rattle.std.proofs.Common.{◌≡◌, ◌+◌, ◌≤◌, length, map, reverse, vec_len, ◌++◌}
use Rattle.std.specs.Vec.{vec_capacity}
use Rattle.mask_caches.specs.declared.lease.Lease.TheVariants.{Pinned}
use Rattle.mask_caches.proofs.ready.leases_of.Given as goal

abbrev pub invariant-loop-pin : goal.invariant-loop-pin
invariant-loop-pin g l = record {
  are : map Pinned l.pins.items ++ reverse l.leases.items ≡ map Pinned l.fn.pins.items;
  room : length l.pins.items + vec_len l.leases ≤ vec_capacity l.leases;
}

abbrev pub decreases-loop-pin : goal.decreases-loop-pin
decreases-loop-pin g l = vec_len l.pins
