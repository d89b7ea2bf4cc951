use Rattle.mask_cover.specs.Columns.{IsSpanOfRows}
use Rattle.mask_cover.proofs.columns.span_of.Given as goal

abbrev pub invariant-loop-k : goal.invariant-loop-k
invariant-loop-k l = IsSpanOfRows l.rows l.k l.span
