use Rattle.std.proofs.Common.{◌≡◌, ◌-◌}
use Rattle.cff_font.specs.Glyphs.{is_blank_from}
use Rattle.cff_font.proofs.blanks.is_blank_body.Given as goal

abbrev pub invariant-loop-k : goal.invariant-loop-k
invariant-loop-k l = is_blank_from l.bytes l.body.to (l.body.to - l._k) l.at ≡ is_blank_from l.bytes l.body.to (l.body.to - l.body.from) l.body.from
