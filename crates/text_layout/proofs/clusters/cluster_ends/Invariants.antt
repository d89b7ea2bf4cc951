use Rattle.std.proofs.Common.{◌≡◌, ◌++◌, [], Some, map, drop, string_bytes}
use Rattle.std.specs.Str.{chars}
use Rattle.text_layout.specs.Clusters.{cluster_ends, ends_behind}
use Rattle.text_layout.specs.Kinds.{chars_of}
use Rattle.text_layout.proofs.clusters.cluster_ends.Given as goal

abbrev pub invariant-loop-shown : goal.invariant-loop-shown
invariant-loop-shown l =
    l.ends.items ++ ends_behind [] (map Some (chars (string_bytes l.text)) ++ chars_of l.wrap (drop l.shown-index l.items))
    ≡ cluster_ends (chars_of l.wrap l.items)
