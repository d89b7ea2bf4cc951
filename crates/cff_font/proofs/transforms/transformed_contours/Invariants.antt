use Rattle.std.proofs.Common.{◌≡◌, drop}
use Rattle.cff_font.specs.Matrices.{transformed_contours}
use Rattle.cff_font.proofs.AllOrNone.{done_and}
use Rattle.cff_font.proofs.transforms.transformed_contours.Given as goal

abbrev pub invariant-loop-k : goal.invariant-loop-k
invariant-loop-k l = done_and l.all (transformed_contours l.m (drop l.k l.contours)) ≡ transformed_contours l.m l.contours
