use Rattle.std.proofs.Common.{◌≡◌, []}
use Rattle.cancelled_edges.proofs.WalkLemmas.{AreRings}
use Rattle.cancelled_edges.proofs.rings.rings_of.Given as goal

abbrev pub invariant-loop-first : goal.invariant-loop-first
invariant-loop-first l = AreRings l.edges.items l.next.items l.first l.taken.items l.rings × (l.ring.items ≡ [])
