use Rattle.std.proofs.Common.{ap, ◌∙◌, rules}
use Rattle.std.specs.Prelude.{FitsSigned}
use Rattle.std.specs.Int.{w64}
use Rattle.std.proofs.lemmas.Int.{to_z-of_z}
use Rattle.ass_script.specs.Numbers.{milli_of}
use Rattle.ass_script.proofs.NumberReads.{milli_read, milli_not_read}
use Rattle.ass_script.proofs.style_line.milli.Goals as goal

pub returns-in_err-number-clause-value : goal.returns-in_err-number-clause-value
returns-in_err-number-clause-value c = c.from_residual.ensures ∙ milli_not_read c.as_bytes.result.now c.in_err-number.ensures.none ∙ ap milli_of c.as_bytes.ensures.value

pub returns-clause-value : goal.returns-clause-value
returns-clause-value c =
    let fits : FitsSigned w64 c.in_ok-number.number = search rules in
    simp to_z-of_z (milli_read c.as_bytes.result.now _ _ c.in_ok-number.ensures.some ∙ ap milli_of c.as_bytes.ensures.value)
