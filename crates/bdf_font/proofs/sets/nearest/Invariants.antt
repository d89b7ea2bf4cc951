use Rattle.std.proofs.Common.{◌≡◌, drop}
use Rattle.bdf_font.specs.Sets.{nearer, nearest_from}
use Rattle.bdf_font.proofs.sets.nearest.Given as goal

abbrev pub invariant-loop-place : goal.invariant-loop-place
invariant-loop-place l = nearer l.best (nearest_from l.name l.bold l.italic l.place (drop l.place l.font-items)) ≡ nearest_from l.name l.bold l.italic 0 l.set.fonts
