use Rattle.border_region.proofs.WideLemmas.{IsWidenedTo}
use Rattle.border_region.proofs.wide_rows.widen_row.Given as goal

abbrev pub invariant-loop-run : goal.invariant-loop-run
invariant-loop-run l = IsWidenedTo l.width l.row l.run-index l.wide.items
