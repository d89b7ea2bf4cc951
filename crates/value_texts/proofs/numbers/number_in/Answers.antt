use Rattle.std.proofs.Common.{◌∙◌, ap, refl, sym}
use Rattle.std.specs.Result.{result_ok}
use Rattle.value_texts.proofs.TextLemmas.{parsed}
use Rattle.value_texts.proofs.numbers.number_in.Goals as goal

pub returns-then-is_number : goal.returns-then-is_number
returns-then-is_number c =
    let is = sym c.if-is_number.ensures in
    c.ok.ensures.value ∙ ap result_ok (parsed c.args.text.now c.parse.result c.parse.ensures.value.0 is) ∙ rw is refl
