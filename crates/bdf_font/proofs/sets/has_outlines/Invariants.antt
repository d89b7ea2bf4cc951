use Rattle.std.proofs.Common.{◌≡◌, drop}
use Rattle.bdf_font.specs.Sets.{has_outlines}
use Rattle.bdf_font.proofs.sets.has_outlines.Given as goal

abbrev pub invariant-loop-font : goal.invariant-loop-font
invariant-loop-font l = has_outlines (drop l.font-index l.font-items) ≡ has_outlines l.set.fonts
