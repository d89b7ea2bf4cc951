use Rattle.std.proofs.Common.{◌≡◌, false}
use Rattle.std.specs.List.{list_any, range_with_len}
use Rattle.bdf_font.specs.Pixels.{row_has_pixels}
use Rattle.bdf_font.proofs.glyphs.Pixels.has_pixels.Given as goal

abbrev pub invariant-loop-j : goal.invariant-loop-j
invariant-loop-j l = list_any (row_has_pixels l.self) (range_with_len 0 l.j) ≡ false
