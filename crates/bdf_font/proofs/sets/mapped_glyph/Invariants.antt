use Rattle.std.proofs.Common.{◌≡◌, drop}
use Rattle.bdf_font.specs.Sets.{mapped_from}
use Rattle.bdf_font.proofs.sets.mapped_glyph.Given as goal

abbrev pub invariant-loop-number : goal.invariant-loop-number
invariant-loop-number l = mapped_from l.c l.number (drop l.number l.font-items) ≡ mapped_from l.c 0 l.set.fonts
