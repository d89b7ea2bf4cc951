use Rattle.std.proofs.Common.{◌≡◌, ◌++◌, drop, flat_map}
use Rattle.ass_num.specs.Winding.{line}
use Rattle.sample_region.specs.Edges.{down_from}
use Rattle.sample_region.proofs.edges.add_ring.Given as goal

abbrev pub invariant-loop-p : goal.invariant-loop-p
invariant-loop-p l = l.list.items ++ flat_map down_from (line l.last (drop l.p-index l.rest) l.first) ≡ l.initial.list.items ++ flat_map down_from (line l.initial.last l.rest l.first)
