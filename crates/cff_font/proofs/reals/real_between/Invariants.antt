use Rattle.std.proofs.Common.{◌≡◌, ◌-◌, ◌*◌, ◌^◌, ◌<◌}
use Rattle.cff_font.specs.KeptReals.{IsKeptOf}
use Rattle.cff_font.specs.Reals.{ExactReal, first_real, bytes_read}
use Rattle.cff_font.proofs.reals.real_between.Given as goal

abbrev pub invariant-loop-i : goal.invariant-loop-i
invariant-loop-i l =
    (l.i < 2 ^ 64) × ((exact : ExactReal) × (IsKeptOf (2 * l.i) exact l.real × (bytes_read l.bytes (l.behind - l.i) l.i exact ≡ bytes_read l.bytes (l.behind - l.at) l.at first_real)))
