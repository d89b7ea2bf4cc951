use Rattle.std.proofs.Common.{ℤ, ◌<ℤ◌, All, take}
use Rattle.sample_region.specs.Walks.{HasWalked}
use Rattle.sample_region.proofs.row.RowCrossings.walk.Given as goal

abbrev pub invariant-loop-c : goal.invariant-loop-c
invariant-loop-c l = (low : ℤ) → All (λ c. low <ℤ c.at) l.crossings → HasWalked low (take l.c-index l.crossings) l.self
