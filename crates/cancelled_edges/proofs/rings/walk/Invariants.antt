use Rattle.cancelled_edges.specs.Walks.{untaken_sum}
use Rattle.cancelled_edges.proofs.WalkLemmas.{IsUnderWay}
use Rattle.cancelled_edges.proofs.rings.walk.Given as goal

abbrev pub invariant-loop-place : goal.invariant-loop-place
invariant-loop-place l = IsUnderWay l.edges l.next l.first l.fn.taken l.taken l.place l.ring.items

abbrev pub decreases-loop-place : goal.decreases-loop-place
decreases-loop-place l = untaken_sum (λ e. 1) l.edges l.taken
