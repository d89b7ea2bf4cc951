-- Public: the rings of a glyph that contours of lines and cubic curves draw. Their points are in 1/65,536 of a font's unit, y upwards.
use Rattle.std.specs.Prelude.{ℕ, ◌-◌, ◌*◌, max, Bool, if◌then◌else◌, ℤ, pos, neg_ℤ, ◌+ℤ◌, ◌*ℤ◌, List, [], ◌∷◌, ◌++◌, map}
use Rattle.std.specs.List.{range_with_len}
use Rattle.ass_num.specs.Floor.{floor_div}
use Rattle.ass_num.specs.Limits.{IsPointWithin}
use Rattle.ass_num.specs.declared.geometry.Matrix.{Matrix}
use Rattle.ass_num.specs.declared.geometry.Point.{Point}
use Rattle.outline_points.specs.Contours.{bend, bold_shift, steps_for}
use Rattle.outline_points.specs.Glyphs.{slant}
use Rattle.outline_points.specs.Placing.{outline_point}
use Rattle.outline_points.specs.declared.stroke.Stroke.{Stroke}
use Rattle.outline_points.specs.declared.stroke.Stroke.TheVariants.{Line, Curve}

-- the farthest from 0 that a coordinate of a glyph's stroke may be: 65,535 units
abbrev pub max_stroke : ℕ
max_stroke = 4294901760

-- the points of a stroke lie within it
abbrev pub IsGlyphStroke : Stroke → Type 0
IsGlyphStroke (Line p) = IsPointWithin max_stroke p
IsGlyphStroke (Curve b c d) = IsPointWithin max_stroke b × IsPointWithin max_stroke c × IsPointWithin max_stroke d

-- 1 in products of a coordinate and a scale: 1/65,536 with 16 fraction bits
abbrev pub stroke_unit : ℕ
stroke_unit = 4294967296

abbrev pub scaled_fraction : ℤ → ℤ → ℤ
scaled_fraction z scale = floor_div (z *ℤ scale) (pos stroke_unit)

-- a point as one of the bitmap's plane, scaled and slanted, and then moved to the right; rounded once
abbrev pub stroke_point : Matrix → ℤ → Point → Point
stroke_point m shift p =
    let y = scaled_fraction (neg_ℤ p.y) m.uy in
    record { x = (scaled_fraction p.x m.ux +ℤ slant m.italic y) +ℤ shift; y = y }

-- The number of steps of a cubic curve: the least of 1, 2, 4, 8 and 16 with which each of its bends is at most 3 n n, or else 32.
-- So it leaves its chords by no more than 9/256 of a pixel, up to 32 steps.
abbrev pub cubic_flatness : ℕ
cubic_flatness = 3

abbrev pub cubic_bend : ℤ → ℤ → ℤ → ℤ → ℕ
cubic_bend a b c d = max (bend a b c) (bend b c d)

abbrev pub cubic_steps : Point → Point → Point → Point → ℕ
cubic_steps a b c d = steps_for cubic_flatness (max (cubic_bend a.x b.x c.x d.x) (cubic_bend a.y b.y c.y d.y))

-- no weight of a point in a coordinate of a curve is above it
abbrev pub max_cubic_weight : ℕ
max_cubic_weight = 49152

-- a coordinate at step u of n
abbrev pub cubic_mean : ℕ → ℕ → ℤ → ℤ → ℤ → ℤ → ℤ
cubic_mean n u a b c d =
    let z = n - u in
    floor_div ((((a *ℤ pos (z * z * z)) +ℤ (b *ℤ pos (3 * (z * z * u)))) +ℤ (c *ℤ pos (3 * (u * u * z)))) +ℤ (d *ℤ pos (u * u * u))) (pos (n * n * n))

abbrev pub point_of_cubic : Point → Point → Point → Point → ℕ → ℕ → Point
point_of_cubic a b c d n u = record { x = cubic_mean n u a.x b.x c.x d.x; y = cubic_mean n u a.y b.y c.y d.y }

-- the curve without its first point
abbrev pub curve_points : Point → Point → Point → Point → List Point
curve_points a b c d = let n = cubic_steps a b c d in map (point_of_cubic a b c d n) (range_with_len 1 n)

-- the point that the next stroke begins at, and the points that a stroke from a adds
abbrev pub stroke_end : Stroke → Point
stroke_end (Line p) = p
stroke_end (Curve b c d) = d

abbrev pub stroke_points : Matrix → ℤ → Point → Stroke → List Point
stroke_points m shift a (Line p) = stroke_point m shift p ∷ []
stroke_points m shift a (Curve b c d) = curve_points (stroke_point m shift a) (stroke_point m shift b) (stroke_point m shift c) (stroke_point m shift d)

abbrev pub points_from : Matrix → ℤ → Point → List Stroke → List Point
points_from m shift a [] = []
points_from m shift a (stroke ∷ strokes) = stroke_points m shift a stroke ++ points_from m shift (stroke_end stroke) strokes

-- turned and held
abbrev pub stroke_ring : Matrix → ℤ → List Stroke → List Point
stroke_ring m shift contour = map (outline_point m.turn) (points_from m shift (record { x = pos 0; y = pos 0 }) contour)

abbrev pub moved_stroke_rings : Matrix → ℤ → List (List Stroke) → List (List Point)
moved_stroke_rings m shift contours = map (stroke_ring m shift) contours

-- where the glyph is bold, the rings once more, a step to the right
abbrev pub stroke_rings : Matrix → Bool → ℤ → List (List Stroke) → List (List Point)
stroke_rings m bold step contours = moved_stroke_rings m (pos 0) contours ++ (if bold then moved_stroke_rings m (bold_shift m step) contours else [])
