use Rattle.std.proofs.Common.{◌≡◌, ◌++◌, length}
use Rattle.cff_font.specs.Strokes.{stroke_lines}
use Rattle.cff_font.proofs.strokes.add_lines.Given as goal

abbrev pub invariant-loop-rest : goal.invariant-loop-rest
invariant-loop-rest l = l.strokes.items ++ stroke_lines l.rest ≡ l.initial.strokes.items ++ stroke_lines l.operands

abbrev pub decreases-loop-rest : goal.decreases-loop-rest
decreases-loop-rest l = length l.rest
