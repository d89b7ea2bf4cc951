use Rattle.std.proofs.Common.{◌≡◌, take}
use Rattle.bdf_font.proofs.glyphs.strokes_copy.Given as goal

abbrev pub invariant-loop-k : goal.invariant-loop-k
invariant-loop-k l = l.copy ≡ take l.k l.contours
