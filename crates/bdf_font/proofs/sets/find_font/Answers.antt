use Rattle.std.proofs.Common.{◌<◌, ◌∙◌, ℕ, length, ap, sym, subst}
use Rattle.bdf_font.specs.Sets.{candidate_place}
use Rattle.bdf_font.proofs.SetLemmas.{chosen_within}
use Rattle.bdf_font.proofs.sets.find_font.Goals as goal

pub returns-in-Some-clause-within : goal.returns-in-Some-clause-within
returns-in-Some-clause-within c = λ some.
    subst (λ (place : ℕ). place < length c.args.set.now.fonts) (ap candidate_place (sym c.nearest.ensures ∙ c.in-Some.is))
    (chosen_within c.args.name.now c.args.bold c.args.italic c.args.set.now.fonts some)
