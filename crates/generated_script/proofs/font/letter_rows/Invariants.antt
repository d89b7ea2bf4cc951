use Rattle.std.proofs.Common.{◌≡◌, map}
use Rattle.std.specs.List.{range_with_len}
use Rattle.generated_script.specs.Grid.{row_byte}
use Rattle.generated_script.proofs.font.letter_rows.Given as goal

abbrev pub invariant-loop-row : goal.invariant-loop-row
invariant-loop-row l = l.rows ≡ map (row_byte l.n) (range_with_len 0 l.row)
