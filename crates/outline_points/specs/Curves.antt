-- Public: the points of curves. A curve has 16 steps; u is the step.
use Rattle.std.specs.Prelude.{ℕ, ◌≤◌, ◌+◌, ◌-◌, ◌*◌, ℤ, pos, ◌+ℤ◌, ◌*ℤ◌, List, map}
use Rattle.std.specs.List.{range_with_len}
use Rattle.ass_num.specs.Floor.{floor_div}
use Rattle.ass_num.specs.declared.geometry.Point.{Point}
use Rattle.outline_points.specs.declared.curves.Weights.{Weights}

-- four numbers by their weights
abbrev pub weighted : Weights → ℤ → ℤ → ℤ → ℤ → ℤ
weighted w a b c d = (((a *ℤ pos w.a) +ℤ (b *ℤ pos w.b)) +ℤ (c *ℤ pos w.c)) +ℤ (d *ℤ pos w.d)

-- the largest weight
abbrev pub max_weight : ℕ
max_weight = 16384

-- no weight is above `most`
pub record AreAtMost (most : ℕ) (w : Weights) : Type 0 where
  pub a_most : w.a ≤ most
  pub b_most : w.b ≤ most
  pub c_most : w.c ≤ most
  pub d_most : w.d ≤ most

-- the weights of a cubic curve sum to 16^3
abbrev pub cubic_unit : ℕ
cubic_unit = 4096

-- and those of a uniform cubic spline to 6 * 16^3
abbrev pub spline_unit : ℕ
spline_unit = 24576

abbrev pub cubic_weights : ℕ → Weights
cubic_weights u =
    let z = 16 - u in
    record { a = z * z * z; b = 3 * z * z * u; c = 3 * z * u * u; d = u * u * u }

abbrev pub spline_weights : ℕ → Weights
spline_weights u =
    let z = 16 - u in
    record { a = z * z * z; b = 3 * u * u * u + 16384 - 96 * u * u; c = 48 * u * u + 768 * u + 4096 - 3 * u * u * u; d = u * u * u }

-- a point of a curve with these weights at the step, which sum to `unit`
abbrev pub weighted_point : Weights → ℕ → Point → Point → Point → Point → Point
weighted_point w unit a b c d = record {
  x = floor_div (weighted w a.x b.x c.x d.x) (pos unit);
  y = floor_div (weighted w a.y b.y c.y d.y) (pos unit);
}

-- the point of the cubic curve from a to d with the control points b and c
abbrev pub cubic_point : Point → Point → Point → Point → ℕ → Point
cubic_point a b c d u = weighted_point (cubic_weights u) cubic_unit a b c d

-- the point of a uniform cubic spline between its control points b and c
abbrev pub spline_point : Point → Point → Point → Point → ℕ → Point
spline_point a b c d u = weighted_point (spline_weights u) spline_unit a b c d

-- a cubic curve without its first point
abbrev pub cubic_points : Point → Point → Point → Point → List Point
cubic_points a b c d = map (cubic_point a b c d) (range_with_len 1 16)

-- the part of a spline between two of its control points
abbrev pub piece_points : Point → Point → Point → Point → List Point
piece_points a b c d = map (spline_point a b c d) (range_with_len 0 17)
