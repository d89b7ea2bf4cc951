use Rattle.std.proofs.Common.{length}
use Rattle.evict_core.specs.Places.{is_idle_place}
use Rattle.evict_core.proofs.Searching.{Searched}
use Rattle.evict_core.proofs.recency.oldest_idle.Given as goal

abbrev pub invariant-loop-number : goal.invariant-loop-number
invariant-loop-number g l = Searched is_idle_place l.order.entries l.rest

abbrev pub decreases-loop-number : goal.decreases-loop-number
decreases-loop-number g l = length l.rest
