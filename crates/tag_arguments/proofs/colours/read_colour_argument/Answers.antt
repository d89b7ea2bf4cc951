use Rattle.std.proofs.Common.{ℕ, Option, ◌==◌, length, ap, sym, ◌∙◌, subst}
use Rattle.std.proofs.lemmas.Bool.{false≢true}
use Rattle.ass_num.specs.Numerals.{IsColour}
use Rattle.tag_arguments.specs.Numbers.{ReadsOptional}
use Rattle.tag_arguments.proofs.colours.read_colour_argument.Goals as goal

pub returns-in_err-read_colour : goal.returns-in_err-read_colour
returns-in_err-read_colour c =
    let P : Option (Option ℕ) → Type 0 = λ z. ReadsOptional IsColour c.args.argument.now z in
    subst P (sym c.from_residual.ensures) (λ e. false≢true (c.if-is_empty.ensures ∙ ap (λ z. length z == 0) e), rw c.as_bytes.ensures.value at c.in_err-read_colour.ensures.none)
