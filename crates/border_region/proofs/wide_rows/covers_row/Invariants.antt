use Rattle.std.proofs.Common.{take}
use Rattle.border_region.specs.Widths.{Covers}
use Rattle.border_region.proofs.wide_rows.covers_row.Given as goal

abbrev pub invariant-loop-run : goal.invariant-loop-run
invariant-loop-run l = Covers l.width (take l.run-index l.row) l.runs
