use Rattle.std.proofs.Common.{◌++◌, map, take, drop}
use Rattle.cancelled_edges.specs.Edges.{way, IsBalanced, IsGrouped, HasNoOpposites}
use Rattle.cancelled_edges.proofs.edges.uncancelled_edges.Given as goal

abbrev pub invariant-loop-e : goal.invariant-loop-e
invariant-loop-e l = record {
  balanced : IsBalanced (map way (take l.e-index l.e-items)) l.kept.items;
  grouped : IsGrouped (l.kept.items ++ drop l.e-index l.e-items);
  single : HasNoOpposites l.kept.items;
}
