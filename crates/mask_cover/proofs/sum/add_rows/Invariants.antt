use Rattle.mask_cover.specs.Rows.{AddsCells}
use Rattle.mask_cover.proofs.sum.add_rows.Given as goal

abbrev pub invariant-loop-j : goal.invariant-loop-j
invariant-loop-j l = AddsCells l.mask l.width l.column l.row l.j l.initial.sums l.sums
