use Rattle.std.proofs.Common.{◌≡◌, ◌-◌, ◌≤◌, []}
use Rattle.sfnt_glyphs.specs.Glyphs.{collected, flag_step, flag_in, no_flag, last_place}
use Rattle.sfnt_glyphs.proofs.simple.flags_at.Given as goal

abbrev pub invariant-loop-k : goal.invariant-loop-k
invariant-loop-k l = record {
  read : collected (flag_step l.bytes l.stop) flag_in l._k (l.n - l._k) l.run l.flags ≡ collected (flag_step l.bytes l.stop) flag_in 0 l.n (no_flag l.at) [];
  reach : l.run.at ≤ last_place;
}
