use Rattle.std.proofs.Common.{◌≡◌, ◌++◌, length}
use Rattle.cff_font.specs.Strokes.{even_curves}
use Rattle.cff_font.proofs.strokes.add_even_curves.Given as goal

abbrev pub invariant-loop-rest : goal.invariant-loop-rest
invariant-loop-rest l = l.strokes.items ++ even_curves l.is_level l.aside l.rest ≡ l.initial.strokes.items ++ even_curves l.is_level l.initial.aside l.operands

abbrev pub decreases-loop-rest : goal.decreases-loop-rest
decreases-loop-rest l = length l.rest
