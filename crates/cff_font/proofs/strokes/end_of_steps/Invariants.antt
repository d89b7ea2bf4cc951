use Rattle.std.proofs.Common.{◌≡◌, length}
use Rattle.ass_num.specs.Limits.{IsPointWithin}
use Rattle.cff_font.specs.Strokes.{end_of_steps}
use Rattle.outline_points.specs.CubicContours.{max_stroke}
use Rattle.cff_font.proofs.strokes.end_of_steps.Given as goal

abbrev pub invariant-loop-rest : goal.invariant-loop-rest
invariant-loop-rest l = record {
  value : end_of_steps l.point l.rest ≡ end_of_steps l.initial.point l.operands;
  within : IsPointWithin max_stroke l.initial.point → IsPointWithin max_stroke l.point;
}

abbrev pub decreases-loop-rest : goal.decreases-loop-rest
decreases-loop-rest l = length l.rest
