use Rattle.std.proofs.Common.{◌≡◌, map, take}
use Rattle.std.specs.Arc.{arc_value}
use Rattle.mask_caches.specs.Leases.{lease_value}
use Rattle.mask_caches.proofs.composites.shared.Given as goal

abbrev pub invariant-loop-lease : goal.invariant-loop-lease
invariant-loop-lease l = map arc_value l.shares.items ≡ map lease_value (take l.lease-index l.leases.items)
