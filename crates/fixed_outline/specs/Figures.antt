-- Inner: the rings that a walk over the segments of a drawing has still to add.
use Rattle.std.specs.Prelude.{◌≡◌, true, ℤ, List, [], ◌∷◌, ◌++◌, map, All}
use Rattle.ass_num.specs.Limits.{IsHeldPoint, IsOutline, IsPointWithin}
use Rattle.ass_num.specs.Paths.{begins_figure}
use Rattle.ass_num.specs.declared.geometry.Point.{Point}
use Rattle.ass_num.specs.declared.geometry.Matrix.{Matrix}
use Rattle.ass_num.specs.declared.geometry.Seg.{Seg}
use Rattle.ass_num.specs.declared.geometry.Seg.TheVariants.{Move}
use Rattle.outline_points.specs.Limits.{max_length}
use Rattle.outline_points.specs.Placing.{outline_point, shifted_point}
use Rattle.outline_points.specs.Drawings.{figure_points, figures, path_rings}

-- a point shifted down, turned and held
abbrev pub placed_point : ℤ → ℤ → Point → Point
placed_point turn shift p = outline_point turn (shifted_point shift p)

-- the ring of a figure; none before the first point
abbrev pub finished_rings : List Point → List (List Point)
finished_rings [] = []
finished_rings (p ∷ ring) = (p ∷ ring) ∷ []

-- the ring that a segment ends, and the points that it goes on with
abbrev pub closed_rings : Seg → List Point → List (List Point)
closed_rings (Move _) ring = finished_rings ring
closed_rings _ ring = []

abbrev pub open_ring : Seg → List Point → List Point
open_ring (Move _) ring = []
open_ring _ ring = ring

-- the rings of a figure that has some points and of the segments behind it
abbrev pub rings_behind : Matrix → List Point → Point → List Seg → List (List Point)
rings_behind m [] a segs = figures m a segs
rings_behind m (p ∷ ring) a segs = ((p ∷ ring) ++ figure_points m a segs) ∷ figures m a segs

-- Where the walk over a path stands: all rings come out, and points lie where they may.
pub record IsWalked (m : Matrix) (shift : ℤ) (segs : List Seg) (rings : List (List Point)) (ring : List Point) (a : Point) (rest : List Seg) : Type 0 where
  pub whole : rings ++ map (map (placed_point m.turn shift)) (rings_behind m ring a rest) ≡ path_rings m shift segs
  pub begins : ring ≡ [] → begins_figure rest ≡ true
  pub points : All (IsPointWithin max_length) ring
  pub vertex : IsHeldPoint a
  pub within : IsOutline rings
