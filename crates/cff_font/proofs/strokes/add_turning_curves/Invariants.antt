use Rattle.std.proofs.Common.{◌≡◌, ◌++◌, length}
use Rattle.cff_font.specs.Strokes.{turning_curves}
use Rattle.cff_font.proofs.strokes.add_turning_curves.Given as goal

abbrev pub invariant-loop-rest : goal.invariant-loop-rest
invariant-loop-rest l = l.strokes.items ++ turning_curves l.is_level l.rest ≡ l.initial.strokes.items ++ turning_curves l.initial.is_level l.operands

abbrev pub decreases-loop-rest : goal.decreases-loop-rest
decreases-loop-rest l = length l.rest
