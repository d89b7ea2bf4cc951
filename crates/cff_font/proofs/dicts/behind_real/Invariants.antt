use Rattle.std.proofs.Common.{◌≡◌, ◌-◌}
use Rattle.cff_font.specs.Dicts.{behind_real}
use Rattle.cff_font.proofs.dicts.behind_real.Given as goal

abbrev pub invariant-loop-i : goal.invariant-loop-i
invariant-loop-i l = behind_real l.bytes (l.stop - l.i) l.i ≡ behind_real l.bytes (l.stop - l.at) l.at
