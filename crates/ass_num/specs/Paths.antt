-- Public: the paths of drawings that are valid. Their points are in thousandths of a script unit.
use Rattle.std.specs.Prelude.{◌≡◌, Bool, true, false, List, [], ◌∷◌, All}
use Rattle.ass_num.specs.Limits.{IsHeldPoint}
use Rattle.ass_num.specs.declared.geometry.Point.{Point}
use Rattle.ass_num.specs.declared.geometry.Seg.{Seg}
use Rattle.ass_num.specs.declared.geometry.Seg.TheVariants.{Move, Line, Cubic, Spline}

-- the points of a segment
abbrev pub points_in : Seg → List Point
points_in (Move p) = p ∷ []
points_in (Line p) = p ∷ []
points_in (Cubic b c d) = b ∷ c ∷ d ∷ []
points_in (Spline controls _) = controls

-- whether a path has no segment or begins with a figure
abbrev pub begins_figure : List Seg → Bool
begins_figure [] = true
begins_figure (Move _ ∷ _) = true
begins_figure _ = false

-- all points of the segment are held
abbrev pub IsSegment : Seg → Type 0
IsSegment seg = All IsHeldPoint (points_in seg)

-- A valid path: nothing stands before its first figure, and no point lies far out.
pub record IsPath (segs : List Seg) : Type 0 where
  pub begins : begins_figure segs ≡ true
  pub held : All IsSegment segs
