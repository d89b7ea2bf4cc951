use Rattle.std.proofs.Common.{◌≡◌, ◌+◌, ◌-◌, ◌*◌}
use Rattle.sfnt_font.specs.Directory.{table_from, table_named}
use Rattle.sfnt_font.proofs.directory.table_named.Given as goal

abbrev pub invariant-loop-k : goal.invariant-loop-k
invariant-loop-k l = table_from l.bytes l.name (l.directory.first + 16 * l.k) (l.directory.count - l.k) ≡ table_named l.bytes l.directory l.name
