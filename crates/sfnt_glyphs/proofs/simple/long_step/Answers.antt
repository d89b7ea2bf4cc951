use Rattle.std.proofs.Common.{◌≡◌, ◌+◌, ◌+ℤ◌, ◌∙◌, false, arith, ap, rules, FitsSigned, to_z, of_z, w32, w64}
use Rattle.std.specs.Prelude.{nat_lt}
use Rattle.std.proofs.lemmas.Bool.Decides.{nat_tests}
use Rattle.font_bytes.specs.Bytes.{s16_at}
use Rattle.sfnt_glyphs.specs.Glyphs.{coordinate_at}
use Rattle.sfnt_glyphs.proofs.Wide.{long_sum}
use Rattle.sfnt_glyphs.proofs.simple.long_step.Goals as goal

pub returns-clause-value : goal.returns-clause-value
returns-clause-value c =
    let no : nat_lt c.args.stop (c.args.before.at + 2) ≡ false = grind (arith, nat_tests) in
    let value_fits : FitsSigned w32 c.args.before.value = search rules in
    let step_fits : FitsSigned w32 c.s16_at.result = search rules in
    let sum : to_z w64 (of_z w64 (to_z w64 (of_z w64 c.from.result) +ℤ to_z w64 (of_z w64 c.from-step.result))) ≡ c.args.before.value +ℤ s16_at c.args.bytes.now c.args.before.at =
    long_sum c.args.before.value c.s16_at.result c.from.result c.from-step.result value_fits step_fits c.from.ensures c.from-step.ensures ∙ ap (λ z. c.args.before.value +ℤ z) c.s16_at.ensures.value in
    rw no (c.coordinate_at.ensures.value ∙ ap (coordinate_at (c.args.before.at + 2)) sum)
