-- Public: how a point of a glyph, a drawing or a box becomes a point of an outline.
use Rattle.std.specs.Prelude.{ℤ, pos, neg_ℤ, ◌+ℤ◌, ◌-ℤ◌, ◌*ℤ◌, ◌≤ℤ◌}
use Rattle.ass_num.specs.Limits.{max_coordinate}
use Rattle.ass_num.specs.Floor.{floor_div, held}
use Rattle.ass_num.specs.Sine.{max_sine, sine_of, cosine_of}
use Rattle.ass_num.specs.declared.geometry.Point.{Point}
use Rattle.ass_num.specs.declared.geometry.Matrix.{Matrix}
use Rattle.outline_points.specs.Limits.{max_scale}

-- a scale isn't below 0, and isn't too large
pub record IsScale (u : ℤ) : Type 0 where
  pub least : pos 0 ≤ℤ u
  pub most : u ≤ℤ pos max_scale

pub record IsMatrix (m : Matrix) : Type 0 where
  pub ux : IsScale m.ux
  pub uy : IsScale m.uy

-- The point turned about 0 by an angle of this sine and cosine, in ten-thousandths, counterclockwise as y grows downwards.
abbrev pub turned_by : ℤ → ℤ → Point → Point
turned_by sine cosine p = record {
  x = floor_div ((p.x *ℤ cosine) +ℤ (p.y *ℤ sine)) (pos max_sine);
  y = floor_div ((p.y *ℤ cosine) -ℤ (p.x *ℤ sine)) (pos max_sine);
}

-- the point turned by an angle in thousandths of a degree
abbrev pub turned_point : ℤ → Point → Point
turned_point turn p = turned_by (sine_of turn) (cosine_of turn) p

-- the nearest coordinate that an outline may have
abbrev pub held_coordinate : ℤ → ℤ
held_coordinate z = held (neg_ℤ (pos max_coordinate)) (pos max_coordinate) z

abbrev pub held_point : Point → Point
held_point p = record { x = held_coordinate p.x; y = held_coordinate p.y }

-- turned, and then held
abbrev pub outline_point : ℤ → Point → Point
outline_point turn p = held_point (turned_point turn p)

-- shifted down, turned, and then held
abbrev pub shifted_point : ℤ → Point → Point
shifted_point shift p = record { x = p.x; y = p.y +ℤ shift }
