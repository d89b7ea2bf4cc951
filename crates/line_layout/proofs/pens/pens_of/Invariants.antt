use Rattle.line_layout.proofs.TableLemmas.{Pens}
use Rattle.line_layout.proofs.pens.pens_of.Given as goal

abbrev pub invariant-loop-k : goal.invariant-loop-k
invariant-loop-k l = Pens l.widths l.spaces l.pens.items l.pen l.k
