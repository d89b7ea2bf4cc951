use Rattle.std.proofs.Common.{◌≡◌, ◌++◌, drop, string_bytes}
use Rattle.still_lists.specs.JsonIndexes.{entries_json}
use Rattle.still_lists.proofs.index.add_entries.Given as goal

abbrev pub invariant-loop-k : goal.invariant-loop-k
invariant-loop-k l = string_bytes l.text ++ entries_json l.k (drop l.k l.entries) ≡ string_bytes l.fn.text ++ entries_json 0 l.entries
