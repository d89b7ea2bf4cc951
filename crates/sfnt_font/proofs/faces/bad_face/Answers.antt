use Rattle.std.proofs.Common.{◌≡◌, ◌+◌, ◌*◌, length, false, arith, ◌∙◌}
use Rattle.std.specs.Prelude.{nat_lt}
use Rattle.std.proofs.lemmas.Bool.Decides.{nat_tests}
use Rattle.font_bytes.specs.Bytes.{u32_at}
use Rattle.sfnt_font.proofs.Steps.{bad_face-next}
use Rattle.sfnt_font.proofs.faces.bad_face.Goals as goal

pub loop-k-preserved : goal.loop-k-preserved
loop-k-preserved c =
    let no : nat_lt (length c.args.bytes.now) (u32_at c.args.bytes.now (c.args.at + 4 * c.loop-k.k) + 12) ≡ false = grind (arith, nat_tests, c.u32_at.ensures) in
    bad_face-next c.args.bytes.now c.args.at c.args.n c.loop-k.k c.loop-k-test.true no ∙ c.loop-k.invariant
