use Rattle.std.proofs.Common.{◌≡◌, ◌++◌, drop, flat_map}
use Rattle.ass_num.specs.Winding.{line}
use Rattle.cancelled_edges.specs.Edges.{edge_from}
use Rattle.cancelled_edges.proofs.edges.add_line.Given as goal

abbrev pub invariant-loop-p : goal.invariant-loop-p
invariant-loop-p l = l.list.items ++ flat_map edge_from (line l.from (drop l.p-index l.rest) l.last) ≡ l.initial.list.items ++ flat_map edge_from (line l.fn.a l.rest l.last)
