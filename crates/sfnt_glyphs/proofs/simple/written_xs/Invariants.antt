use Rattle.std.proofs.Common.{◌≡◌, ◌-◌, ◌≤◌, length}
use Rattle.sfnt_glyphs.specs.Glyphs.{collected, coordinate_step, value_in, written_xs, last_place}
use Rattle.sfnt_glyphs.proofs.simple.written_xs.Given as goal

abbrev pub invariant-loop-k : goal.invariant-loop-k
invariant-loop-k l = record {
  read : collected (coordinate_step l.bytes l.stop 2 16 l.flags) value_in l.k (length l.flags - l.k) l.last l.values ≡ written_xs l.bytes l.stop l.flags l.at;
  reach : l.last.at ≤ last_place;
}
