-- Public: the rings of a glyph that contours draw. A contour is a cyclic list of points. Between two points on it a point off it draws a quadratic curve.
use Rattle.std.specs.Prelude.{ℕ, ◌+◌, ◌-◌, ◌*◌, ◌==◌, max, nat_le, Bool, true, if◌then◌else◌, ℤ, pos, neg_ℤ, unsigned_abs, ◌+ℤ◌, ◌-ℤ◌, ◌*ℤ◌, List, [], ◌∷◌, ◌++◌, length, slice_index_or, map, flat_map}
use Rattle.std.specs.List.{range_with_len}
use Rattle.ass_num.specs.Floor.{floor_div}
use Rattle.ass_num.specs.Limits.{IsWithin, one_16}
use Rattle.ass_num.specs.declared.geometry.Matrix.{Matrix}
use Rattle.ass_num.specs.declared.geometry.Point.{Point}
use Rattle.outline_points.specs.Glyphs.{scaled_pixel}
use Rattle.outline_points.specs.Limits.{max_unit}
use Rattle.outline_points.specs.Placing.{outline_point}
use Rattle.outline_points.specs.declared.glyph_point.GlyphPoint.{GlyphPoint}

-- a point that a contour may have
pub record IsGlyphPoint (p : GlyphPoint) : Type 0 where
  pub x : IsWithin max_unit p.x
  pub y : IsWithin max_unit p.y

-- a point of a contour as a point of the bitmap's plane, scaled and slanted, and then moved to the right
abbrev pub contour_point : Matrix → ℤ → GlyphPoint → Point
contour_point m shift p =
    let scaled = scaled_pixel m p.x (neg_ℤ p.y) in
    record { x = scaled.x +ℤ shift; y = scaled.y }

-- how far a step to the right moves a point once it is scaled
abbrev pub bold_shift : Matrix → ℤ → ℤ
bold_shift m step = floor_div (step *ℤ m.ux) (pos one_16)

-- ---- quadratic curves from a to c with the control point b

abbrev pub middle : Point → Point → Point
middle a b = record { x = floor_div (a.x +ℤ b.x) (pos 2); y = floor_div (a.y +ℤ b.y) (pos 2) }

-- how far the control point lies from halfway between the ends, twice
abbrev pub bend : ℤ → ℤ → ℤ → ℕ
bend a b c = unsigned_abs ((a -ℤ (pos 2 *ℤ b)) +ℤ c)

-- The number of steps n for a bend: the least of 1, 2, 4, 8 and 16 with which it is at most flatness times n n, or else 32.
abbrev pub steps_for : ℕ → ℕ → ℕ
steps_for flatness bend =
    if nat_le bend flatness then 1
    else if nat_le bend (4 * flatness) then 2
    else if nat_le bend (16 * flatness) then 4
    else if nat_le bend (64 * flatness) then 8
    else if nat_le bend (256 * flatness) then 16
    else 32

-- the bend of a quadratic curve in one step
abbrev pub quadratic_flatness : ℕ
quadratic_flatness = 4

abbrev pub steps_of : Point → Point → Point → ℕ
steps_of a b c = steps_for quadratic_flatness (max (bend a.x b.x c.x) (bend a.y b.y c.y))

-- the largest weight of a point in a coordinate of a curve
abbrev pub max_quadratic_weight : ℕ
max_quadratic_weight = 2048

-- a coordinate at step u of n
abbrev pub quadratic_mean : ℕ → ℕ → ℤ → ℤ → ℤ → ℤ
quadratic_mean n u a b c =
    let z = n - u in
    floor_div (((a *ℤ pos (z * z)) +ℤ (b *ℤ pos (2 * (z * u)))) +ℤ (c *ℤ pos (u * u))) (pos (n * n))

abbrev pub quadratic_point : Point → Point → Point → ℕ → ℕ → Point
quadratic_point a b c n u = record { x = quadratic_mean n u a.x b.x c.x; y = quadratic_mean n u a.y b.y c.y }

-- the curve without its first point, and without its last one where that is a point of the contour itself
abbrev pub quadratic_points : Point → Point → Point → Bool → List Point
quadratic_points a b c ends_on =
    let n = steps_of a b c in
    map (quadratic_point a b c n) (range_with_len 1 (if ends_on then n - 1 else n))

-- ---- rings

-- where the curve of b ends on the side of a neighbour: there if that is on the contour, or else halfway
abbrev pub curve_end : Bool → Point → Point → Point
curve_end is_on neighbour b = if is_on then neighbour else middle neighbour b

-- what a point adds to its ring: itself, or a curve between its neighbours
abbrev pub points_between : Matrix → ℤ → GlyphPoint → GlyphPoint → GlyphPoint → List Point
points_between m shift before here behind =
    let b = contour_point m shift here in
    if here.is_on then b ∷ [] else
    quadratic_points (curve_end before.is_on (contour_point m shift before) b) b (curve_end behind.is_on (contour_point m shift behind) b) behind.is_on

-- the places before and behind place i of n in a circle
abbrev pub place_before : ℕ → ℕ → ℕ
place_before n i = if i == 0 then n - 1 else i - 1

abbrev pub place_behind : ℕ → ℕ → ℕ
place_behind n i = if i + 1 == n then 0 else i + 1

-- The point at place i; places beyond the contour aren't looked at.
abbrev pub point_at : List GlyphPoint → ℕ → GlyphPoint
point_at contour i = slice_index_or contour i (record { x = pos 0; y = pos 0; is_on = true })

abbrev pub points_at : Matrix → ℤ → List GlyphPoint → ℕ → List Point
points_at m shift contour i =
    points_between m shift (point_at contour (place_before (length contour) i)) (point_at contour i) (point_at contour (place_behind (length contour) i))

-- the ring of a contour before it is turned
abbrev pub contour_points : Matrix → ℤ → List GlyphPoint → List Point
contour_points m shift contour = flat_map (points_at m shift contour) (range_with_len 0 (length contour))

-- turned and held
abbrev pub contour_ring : Matrix → ℤ → List GlyphPoint → List Point
contour_ring m shift contour = map (outline_point m.turn) (contour_points m shift contour)

-- the rings of contours that are moved to the right
abbrev pub moved_rings : Matrix → ℤ → List (List GlyphPoint) → List (List Point)
moved_rings m shift contours = map (contour_ring m shift) contours

-- The rings of contours; where the glyph is bold, those of the contours once more, a step to the right.
abbrev pub contour_rings : Matrix → Bool → ℤ → List (List GlyphPoint) → List (List Point)
contour_rings m bold step contours = moved_rings m (pos 0) contours ++ (if bold then moved_rings m (bold_shift m step) contours else [])
