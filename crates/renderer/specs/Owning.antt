-- Public: what the masks of leases cost that are their caller's own.
use Rattle.std.specs.Prelude.{ℕ, List, sum_by}
use Rattle.std.specs.Arc.{arc_value}
use Rattle.mask_caches.specs.declared.lease.Lease.TheVariants.{Pinned, Own}
use Rattle.mask_keys.specs.Costs.{mask_cost}
use Rattle.renderer.specs.ShownFrames.{MaskLease}

-- a pinned mask is counted by its cache
abbrev pub own_cost : MaskLease → ℕ
own_cost (Pinned pin) = 0
own_cost (Own mask) = mask_cost (arc_value mask)

-- of all of them together
abbrev pub cost_of_owned : List MaskLease → ℕ
cost_of_owned leases = sum_by own_cost leases
