use Rattle.std.proofs.Common.{◌≡◌, length}
use Rattle.std.specs.Vec.Iter.{into_iter_items, into_iter_len}
use Rattle.bdf_font.proofs.OutlineLists.{AreMade}
use Rattle.bdf_font.proofs.file.outline_fonts.Given as goal

abbrev pub invariant-loop-face : goal.invariant-loop-face
invariant-loop-face l = AreMade l.fn.faces l.fonts (into_iter_items l.face-iterator) × (into_iter_len l.face-iterator ≡ length (into_iter_items l.face-iterator))
