use Rattle.ass_num.specs.Limits.{IsOutline}
use Rattle.kernel_bench.proofs.glyph.glyph.Given as goal

abbrev pub invariant-loop-column : goal.invariant-loop-column
invariant-loop-column l = IsOutline l.rings

abbrev pub invariant-loop-row : goal.invariant-loop-row
invariant-loop-row l = IsOutline l.rings
