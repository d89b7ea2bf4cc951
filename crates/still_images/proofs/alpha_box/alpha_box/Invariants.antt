use Rattle.still_images.proofs.RowLemmas.{IsBoxAbove}
use Rattle.still_images.proofs.alpha_box.alpha_box.Given as goal

abbrev pub invariant-loop-y : goal.invariant-loop-y
invariant-loop-y l = IsBoxAbove l.size l.a l.b l.y l.changed
