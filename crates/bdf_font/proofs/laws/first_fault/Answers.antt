use Rattle.std.proofs.Common.{◌+◌, ◌∷◌, ◌++◌, length, Err, refl, subst}
use Rattle.bdf_font.specs.declared.cause.FontRefusal.TheVariants.{BadFont}
use Rattle.bdf_font.specs.Grammar.{IsFontAnswer}
use Rattle.bdf_font.specs.Steps.{no_font_lines}
use Rattle.bdf_font.proofs.Faults.{before_fault, stays_refused}
use Rattle.bdf_font.proofs.Answering.{one_answer, read_answer}
use Rattle.bdf_font.proofs.laws.first_fault.Goals as goal

pub returns-clause-first : goal.returns-clause-first
returns-clause-first c = λ front rest cause h.
    subst (IsFontAnswer front) (before_fault front rest 1 no_font_lines (1 + length front) cause (one_answer (front ++ rest) (Err (BadFont (1 + length front) cause)) h) refl) (read_answer front)

pub returns-clause-stays : goal.returns-clause-stays
returns-clause-stays c = λ front line rest more cause h.
    subst (IsFontAnswer (front ++ line ∷ more)) (stays_refused front line rest more 1 no_font_lines (1 + length front) cause (one_answer (front ++ line ∷ rest) (Err (BadFont (1 + length front) cause)) h) refl) (read_answer (front ++ line ∷ more))
