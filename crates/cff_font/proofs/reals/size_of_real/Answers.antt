use Rattle.std.proofs.Common.{◌∙◌, true, false}
use Rattle.cff_font.proofs.KeptLemmas.{size_by}
use Rattle.cff_font.proofs.reals.size_of_real.Goals as goal

pub returns-then-real-clause-value : goal.returns-then-real-clause-value
returns-then-real-clause-value c = λ halves exact few kept.
    c.scaled_by.ensures.value exact.digits kept.digits ∙ size_by halves exact c.args.real true few kept c.if-real.true

pub returns-clause-value : goal.returns-clause-value
returns-clause-value c = λ halves exact few kept.
    c.scaled_by-2.ensures.value exact.digits kept.digits ∙ size_by halves exact c.args.real false few kept c.if-real.false
