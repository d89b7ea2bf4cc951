use Rattle.std.proofs.Common.{◌≡◌, ◌+◌, ◌-◌, ◌*◌}
use Rattle.sfnt_font.specs.Faces.{bad_face}
use Rattle.sfnt_font.proofs.faces.bad_face.Given as goal

abbrev pub invariant-loop-k : goal.invariant-loop-k
invariant-loop-k l = bad_face l.bytes (l.at + 4 * l.k) (l.n - l.k) ≡ bad_face l.bytes l.at l.n
