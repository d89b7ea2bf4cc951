use Rattle.border_region.proofs.StripRowLemmas.{IsUnited}
use Rattle.border_region.proofs.strip_rows.unite.Given as goal

abbrev pub invariant-loop-run : goal.invariant-loop-run
invariant-loop-run l = IsUnited l.found l.run-index l.runs.items
