-- Public: pens in samples of the frame, the pixels and phases of masks, and which masks can't reach the frame.
-- (Aegisub tag reference, "\frz", "\org".)
use Rattle.std.specs.Prelude.{ℕ, ◌&&◌, Bool, ℤ, pos, neg_ℤ, ◌+ℤ◌, ◌-ℤ◌, int_le, int_lt, unsigned_abs}
use Rattle.std.specs.Int.{int_rem_euclid}
use Rattle.ass_num.specs.Floor.{floor_div, held}
use Rattle.ass_num.specs.declared.geometry.Point.{Point}
use Rattle.ass_num.specs.declared.size.Size.{Size}
use Rattle.mask_keys.specs.Keys.{samples_across}
use Rattle.outline_points.specs.Placing.{turned_point}
use Rattle.draw_numbers.specs.declared.pens.Spot.{Spot}
use Rattle.draw_numbers.specs.declared.widths.Offsets.{Offsets}
use Rattle.draw_numbers.specs.Limits.{max_pen, max_reach, sample}

abbrev pub point_difference : Point → Point → Point
point_difference p q = record { x = p.x -ℤ q.x; y = p.y -ℤ q.y }

abbrev pub point_sum : Point → Point → Point
point_sum p q = record { x = p.x +ℤ q.x; y = p.y +ℤ q.y }

-- a point turned about an origin
abbrev pub turned_about : Point → ℤ → Point → Point
turned_about origin turn p = point_sum origin (turned_point turn (point_difference p origin))

-- a coordinate in samples, moved by an offset, and held where pens may lie
abbrev pub held_pen : ℤ → ℤ → ℤ
held_pen units offset = held (neg_ℤ (pos max_pen)) (pos max_pen) (floor_div units (pos sample) +ℤ offset)

-- the pen of a mask, in samples
abbrev pub pen_of : Point → Offsets → Point
pen_of p offsets = record { x = held_pen p.x offsets.x; y = held_pen p.y offsets.y }

-- the pixel in which a coordinate of a pen lies, and how many samples it lies behind the pixel's first
abbrev pub pixel_of : ℤ → ℤ
pixel_of pen = floor_div pen (pos samples_across)

abbrev pub phase_of : ℤ → ℕ
phase_of pen = unsigned_abs (int_rem_euclid pen (pos samples_across))

abbrev pub spot_of : Point → Spot
spot_of pen = record { x = pixel_of pen.x; y = pixel_of pen.y; px = phase_of pen.x; py = phase_of pen.y }

-- where the mask stands whose pen is at a point, turned about the origin and then moved by the offsets
abbrev pub spot_at : Point → ℤ → Point → Offsets → Spot
spot_at origin turn p offsets = spot_of (pen_of (turned_about origin turn p) offsets)

-- a pixel isn't too far outside a frame of so many pixels
abbrev pub reaches : ℕ → ℤ → Bool
reaches side pixel = int_le (neg_ℤ (pos max_reach)) pixel && int_lt pixel (pos side +ℤ pos max_reach)

-- whether a mask that stands there may reach the frame
abbrev pub is_near_frame : Size → Spot → Bool
is_near_frame size spot = reaches size.w spot.x && reaches size.h spot.y
