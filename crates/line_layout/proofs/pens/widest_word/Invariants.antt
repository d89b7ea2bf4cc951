use Rattle.line_layout.proofs.TableLemmas.{Words}
use Rattle.line_layout.proofs.pens.widest_word.Given as goal

abbrev pub invariant-loop-k : goal.invariant-loop-k
invariant-loop-k l = Words l.widths l.spaces l.widest l.k
