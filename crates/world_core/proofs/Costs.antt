-- What values cost.
use Rattle.std.proofs.Common.{◌≤◌, arith}
use Rattle.evict_core.specs.Machine.{max_cost}
use Rattle.world_core.specs.Keys.{world_cost}
use Rattle.world_core.specs.declared.world_keys.WorldValue.{WorldValue}
use Rattle.world_core.specs.declared.world_keys.WorldValue.TheVariants.{Region, Mask}

-- a value's cost is one that a cache takes
pub cost-most : (v : WorldValue) → world_cost v ≤ max_cost
cost-most (Region region) = omega arith
cost-most (Mask mask) = omega arith
