use Rattle.std.proofs.Common.{◌≡◌, take, flat_map}
use Rattle.ass_num.specs.Winding.{edges_of}
use Rattle.cancelled_edges.specs.Edges.{edge_from}
use Rattle.cancelled_edges.proofs.edges.list_edges.Given as goal

abbrev pub invariant-loop-k : goal.invariant-loop-k
invariant-loop-k l = l.list.items ≡ flat_map edge_from (edges_of (take l.k l.outline.rings))
