use Rattle.std.proofs.Common.{◌≡◌, ◌++◌, flat_map, length}
use Rattle.std.specs.Str.{chars}
use Rattle.text_layout.specs.Clusters.{flags_of}
use Rattle.text_layout.proofs.clusters.add_text.Given as goal

abbrev pub invariant-loop-cluster : goal.invariant-loop-cluster
invariant-loop-cluster l = l.ends.items ≡ l.initial.ends.items ++ flat_map (λ cluster. flags_of (length (chars cluster.now))) l.yielded
