use Rattle.std.proofs.Common.{sym, subst}
use Rattle.std.specs.Prelude.{IfSome}
use Rattle.ass_num.specs.Limits.{IsPointWithin}
use Rattle.outline_points.specs.CubicContours.{max_stroke}
use Rattle.cff_font.proofs.PenBounds.{point_of-within}
use Rattle.cff_font.proofs.strokes.point_behind.Goals as goal

pub returns-clause-within : goal.returns-clause-within
returns-clause-within c =
    subst (λ found. IfSome found (IsPointWithin max_stroke)) (sym c.point_of.ensures)
    (point_of-within _ _ c.coordinate_behind.ensures.within c.coordinate_behind-2.ensures.within)
