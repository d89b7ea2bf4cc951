use Rattle.std.proofs.Common.{◌≡◌, ◌++◌, drop}
use Rattle.bdf_font.specs.Places.{entries_from}
use Rattle.bdf_font.proofs.bitmap_font.entries_of.Given as goal

abbrev pub invariant-loop-place : goal.invariant-loop-place
invariant-loop-place l = l.entries.items ++ entries_from l.place (drop l.place l.glyphs) ≡ entries_from 0 l.glyphs
