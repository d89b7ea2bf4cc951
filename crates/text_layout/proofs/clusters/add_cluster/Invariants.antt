use Rattle.std.proofs.Common.{◌≡◌, ◌-◌, ◌++◌}
use Rattle.text_layout.specs.Clusters.{flags_of}
use Rattle.text_layout.proofs.clusters.add_cluster.Given as goal

abbrev pub invariant-loop-k : goal.invariant-loop-k
invariant-loop-k l = l.ends.items ++ flags_of (l.count - l.k) ≡ l.initial.ends.items ++ flags_of l.count
