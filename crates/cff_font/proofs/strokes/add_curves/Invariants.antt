use Rattle.std.proofs.Common.{◌≡◌, ◌++◌, length}
use Rattle.cff_font.specs.Strokes.{curves_of}
use Rattle.cff_font.proofs.strokes.add_curves.Given as goal

abbrev pub invariant-loop-rest : goal.invariant-loop-rest
invariant-loop-rest l = l.strokes.items ++ curves_of l.rest ≡ l.initial.strokes.items ++ curves_of l.operands

abbrev pub decreases-loop-rest : goal.decreases-loop-rest
decreases-loop-rest l = length l.rest
