use Rattle.sfnt_font.proofs.ReadLemmas.{AreRead}
use Rattle.sfnt_font.proofs.read.read_faces.Given as goal

abbrev pub invariant-loop-face : goal.invariant-loop-face
invariant-loop-face l = AreRead l.file l.count l.face l.fonts
