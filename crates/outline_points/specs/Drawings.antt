-- Public: the rings of a drawing. The points of its path are in thousandths.
use Rattle.std.specs.Prelude.{ℕ, ◌*◌, ℤ, pos, ◌*ℤ◌, List, [], ◌∷◌, ◌++◌, map, flat_map}
use Rattle.std.specs.Int.{int_max}
use Rattle.ass_num.specs.Floor.{floor_div}
use Rattle.ass_num.specs.Limits.{one_16}
use Rattle.ass_num.specs.declared.geometry.Point.{Point}
use Rattle.ass_num.specs.declared.geometry.Matrix.{Matrix}
use Rattle.ass_num.specs.declared.geometry.Seg.{Seg}
use Rattle.ass_num.specs.declared.geometry.Seg.TheVariants.{Move, Line, Cubic, Spline}
use Rattle.outline_points.specs.Placing.{outline_point, shifted_point}
use Rattle.outline_points.specs.Curves.{cubic_points, piece_points}

-- 1 in products of a coordinate of a path and a scale: thousandths with 16 fraction bits
abbrev pub path_unit : ℕ
path_unit = 1000 * one_16

-- a point of the path, scaled
abbrev pub scaled_point : Matrix → Point → Point
scaled_point m p = record { x = floor_div (p.x *ℤ m.ux) (pos path_unit); y = floor_div (p.y *ℤ m.uy) (pos path_unit) }

-- the points of a spline: a piece for each four control points in a row
abbrev pub spline_points : List Point → List Point
spline_points (a ∷ b ∷ c ∷ d ∷ rest) = piece_points a b c d ++ spline_points (b ∷ c ∷ d ∷ rest)
spline_points _ = []

-- the last of the points, or else the one before them
abbrev pub last_point : Point → List Point → Point
last_point a [] = a
last_point a (b ∷ rest) = last_point b rest

-- the point of the path that the next segment begins at, where this one begins at a
abbrev pub end_point : Point → Seg → Point
end_point a (Move p) = p
end_point a (Line p) = p
end_point a (Cubic _ _ d) = d
end_point a (Spline controls _) = last_point a controls

-- the points that a segment from a adds to its ring
abbrev pub segment_points : Matrix → Point → Seg → List Point
segment_points m a (Move p) = scaled_point m p ∷ []
segment_points m a (Line p) = scaled_point m p ∷ []
segment_points m a (Cubic b c d) = cubic_points (scaled_point m a) (scaled_point m b) (scaled_point m c) (scaled_point m d)
segment_points m a (Spline controls _) = spline_points (map (scaled_point m) controls)

-- the points of segments from a, up to the next figure
abbrev pub figure_points : Matrix → Point → List Seg → List Point
figure_points m a [] = []
figure_points m a (Move _ ∷ segs) = []
figure_points m a (seg ∷ segs) = segment_points m a seg ++ figure_points m (end_point a seg) segs

-- the rings of the figures that begin among segments from a
abbrev pub figures : Matrix → Point → List Seg → List (List Point)
figures m a [] = []
figures m a (Move p ∷ segs) = (scaled_point m p ∷ figure_points m p segs) ∷ figures m p segs
figures m a (seg ∷ segs) = figures m (end_point a seg) segs

abbrev pub origin : Point
origin = record { x = pos 0; y = pos 0 }

-- the rings of a path before they are shifted and turned
abbrev pub drawing_rings : Matrix → List Seg → List (List Point)
drawing_rings m segs = figures m origin segs

-- the rings of a path: scaled, drawn as curves, shifted down, turned and held
abbrev pub path_rings : Matrix → ℤ → List Seg → List (List Point)
path_rings m shift segs = map (map (λ p. outline_point m.turn (shifted_point shift p))) (drawing_rings m segs)

-- the points of segments from a, whatever figure they belong to
abbrev pub walk_points : Matrix → Point → List Seg → List Point
walk_points m a [] = []
walk_points m a (seg ∷ segs) = segment_points m a seg ++ walk_points m (end_point a seg) segs

-- the largest x and the largest y of the points; 0 and 0 of none
abbrev pub larger_point : Point → Point → Point
larger_point p q = record { x = int_max p.x q.x; y = int_max p.y q.y }

abbrev pub largest_from : Point → List Point → Point
largest_from p [] = p
largest_from p (q ∷ rest) = largest_from (larger_point p q) rest

abbrev pub largest_point : List Point → Point
largest_point [] = origin
largest_point (p ∷ rest) = largest_from p rest

-- the largest x and y of a drawing, before it is shifted and turned
abbrev pub drawing_extent : Matrix → List Seg → Point
drawing_extent m segs = largest_point (flat_map (λ ring. ring) (drawing_rings m segs))
