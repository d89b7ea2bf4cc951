use Rattle.std.proofs.Common.{◌≡◌, length}
use Rattle.std.specs.Vec.Iter.{into_iter_items, into_iter_len}
use Rattle.embedded_fonts.proofs.HeldLemmas.{HeldSoFar}
use Rattle.embedded_fonts.proofs.read.fonts_held.Given as goal

abbrev pub invariant-loop-file : goal.invariant-loop-file
invariant-loop-file l =
    HeldSoFar l.fn.files l.place l.fonts.items (into_iter_items l.file-iterator) × (into_iter_len l.file-iterator ≡ length (into_iter_items l.file-iterator))
