use Rattle.std.proofs.Common.{ℕ, ◌<◌, length, Option, sym, subst}
use Rattle.std.specs.Prelude.{IfSome}
use Rattle.ass_script.proofs.Picks.{last_within, or_within}
use Rattle.ass_script.proofs.script.find_style.Goals as goal

pub returns-clause-within : goal.returns-clause-within
returns-clause-within c =
    let styles = c.args.script.now.styles in
    let P : Option ℕ → Type 0 = λ o. IfSome o (λ k. k < length styles) in
    subst P (sym c.or.ensures)
    (or_within (length styles) _ _ (subst P (sym c.place_of.ensures) (last_within _ styles)) (subst P (sym c.place_of-2.ensures) (last_within _ styles)))
