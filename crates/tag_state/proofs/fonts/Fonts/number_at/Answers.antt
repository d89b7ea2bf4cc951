use Rattle.std.proofs.Common.{◌∙◌, Some, refl, ap}
use Rattle.tag_state.proofs.FontLemmas.{fonts_styled}
use Rattle.tag_state.proofs.fonts.Fonts.number_at.Goals as goal

pub returns-clause-fonts : goal.returns-clause-fonts
returns-clause-fonts c = λ script there are.
    fonts_styled script c.number_of.new.self _ c.args.place c.in_ok-number.number c.args.style.now (c.in_ok-number.ensures.fonts script are) there
    (c.in_ok-number.ensures.number script are ∙ ap Some c.as_str.ensures) c.in_ok-insert.ensures.updates.0 refl refl

pub returns-clause-number : goal.returns-clause-number
returns-clause-number c = λ script there are. c.in_ok-number.ensures.number script are ∙ ap Some c.as_str.ensures
