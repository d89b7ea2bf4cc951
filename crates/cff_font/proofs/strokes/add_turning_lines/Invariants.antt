use Rattle.std.proofs.Common.{◌≡◌, ◌++◌, length}
use Rattle.cff_font.specs.Strokes.{turning_lines}
use Rattle.cff_font.proofs.strokes.add_turning_lines.Given as goal

abbrev pub invariant-loop-rest : goal.invariant-loop-rest
invariant-loop-rest l = l.strokes.items ++ turning_lines l.is_level l.rest ≡ l.initial.strokes.items ++ turning_lines l.initial.is_level l.operands

abbrev pub decreases-loop-rest : goal.decreases-loop-rest
decreases-loop-rest l = length l.rest
