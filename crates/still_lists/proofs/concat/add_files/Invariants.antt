use Rattle.std.proofs.Common.{◌≡◌, ◌++◌, drop, string_bytes}
use Rattle.still_lists.specs.ConcatLists.{file_lines}
use Rattle.still_lists.proofs.concat.add_files.Given as goal

abbrev pub invariant-loop-k : goal.invariant-loop-k
invariant-loop-k l = string_bytes l.text ++ file_lines l.format l.k (drop l.k l.entries) l.end ≡ string_bytes l.fn.text ++ file_lines l.format 0 l.entries l.end
