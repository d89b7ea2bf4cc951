use Rattle.std.proofs.Common.{◌≡◌, drop}
use Rattle.cff_font.specs.Matrices.{transformed_contour}
use Rattle.cff_font.proofs.AllOrNone.{done_and}
use Rattle.cff_font.proofs.transforms.transformed_contour.Given as goal

abbrev pub invariant-loop-stroke : goal.invariant-loop-stroke
invariant-loop-stroke l = done_and l.strokes (transformed_contour l.m (drop l.stroke-index l.contour)) ≡ transformed_contour l.m l.contour
