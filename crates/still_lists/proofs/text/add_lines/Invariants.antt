use Rattle.std.proofs.Common.{◌≡◌, ◌++◌, drop, string_bytes}
use Rattle.still_lists.specs.TextIndexes.{entry_lines}
use Rattle.still_lists.proofs.text.add_lines.Given as goal

abbrev pub invariant-loop-k : goal.invariant-loop-k
invariant-loop-k l = string_bytes l.text ++ entry_lines l.k (drop l.k l.entries) ≡ string_bytes l.fn.text ++ entry_lines 0 l.entries
