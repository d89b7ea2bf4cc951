use Rattle.line_layout.proofs.BackLemmas.{Backing}
use Rattle.line_layout.proofs.filling.fill_back.Given as goal

abbrev pub invariant-loop-first : goal.invariant-loop-first
invariant-loop-first l = Backing l.widths l.spaces l.limit l.places.items l.end

abbrev pub decreases-loop-first : goal.decreases-loop-first
decreases-loop-first l = l.end
