use Rattle.std.proofs.Common.{◌≡◌, ◌-◌, ◌≤◌, length}
use Rattle.sfnt_glyphs.specs.Glyphs.{collected, coordinate_step, point_in, written_points, last_place}
use Rattle.sfnt_glyphs.proofs.simple.written_points.Given as goal

abbrev pub invariant-loop-k : goal.invariant-loop-k
invariant-loop-k l = record {
  read : collected (coordinate_step l.bytes l.stop 4 32 l.flags) (point_in l.flags l.xs) l.k (length l.flags - l.k) l.last l.points ≡ written_points l.bytes l.stop l.flags l.xs l.at;
  reach : l.last.at ≤ last_place;
}
