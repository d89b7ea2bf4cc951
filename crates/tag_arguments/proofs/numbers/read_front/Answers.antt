use Rattle.std.proofs.Common.{ℤ, Option, sym, subst}
use Rattle.ass_num.specs.Numerals.{IsMilli}
use Rattle.tag_arguments.specs.Numbers.{ReadsFront}
use Rattle.tag_arguments.proofs.numbers.read_front.Goals as goal

pub returns-in_err-value : goal.returns-in_err-value
returns-in_err-value c =
    let P : Option ℤ → Type 0 = λ z. ReadsFront IsMilli c.args.argument.now z in
    subst P (sym c.from_residual.ensures) (rw c.as_bytes.ensures.value at c.in_err-value.ensures.none)
