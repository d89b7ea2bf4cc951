use Rattle.std.proofs.Common.{◌≡◌, map, take}
use Rattle.cancelled_edges.proofs.NextLemmas.{AreStarts}
use Rattle.cancelled_edges.specs.declared.rings.Start.{Start}
use Rattle.cancelled_edges.proofs.rings.next_edges.Given as goal

abbrev pub invariant-loop-k : goal.invariant-loop-k
invariant-loop-k l = AreStarts l.edges l.k l.starts.items

abbrev pub invariant-loop-start : goal.invariant-loop-start
invariant-loop-start l = l.next.items ≡ map (λ (s : Start). s.edge) (take l.start-index l.start-items)
