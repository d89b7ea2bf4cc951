use Rattle.std.proofs.Common.{◌-◌, sym, subst, arith, Some}
use Rattle.override_tags.specs.declared.tag.GradualTag.{GradualTag}
use Rattle.override_tags.specs.Ranges.{IsGradualTag}
use Rattle.tag_state.specs.Setters.{Gradual}
use Rattle.tag_state.specs.Steps.{IsStepped}
use Rattle.tag_state.proofs.StepLemmas.{colour_steps, alpha_steps}
use Rattle.tag_state.proofs.steps.move_by.Goals as goal

pub returns-in-Colour : goal.returns-in-Colour
returns-in-Colour c =
    let P : GradualTag → Type 0 = λ z. IsStepped c.args.style.now (Gradual c.args.weight z) c.args.state.now c.set_colour.new.state in
    let held = subst IsGradualTag c.in-Colour.is c.requires.held in
    subst P (sym c.in-Colour.is)
    (colour_steps c.args.style.now c.in-Colour.which (c.in-Colour.which - 1) c.in-Colour.value (Some c.args.weight) c.args.state.now c.set_colour.new.state (omega (arith, held.0)) (omega (arith, held.0, held.1, c.set_colour.ensures.four)) c.set_colour.ensures.written)

pub returns-in-Alpha : goal.returns-in-Alpha
returns-in-Alpha c =
    let P : GradualTag → Type 0 = λ z. IsStepped c.args.style.now (Gradual c.args.weight z) c.args.state.now c.set_alpha.new.state in
    subst P (sym c.in-Alpha.is) (alpha_steps c.args.style.now c.in-Alpha.which c.in-Alpha.value (Some c.args.weight) c.args.state.now c.set_alpha.new.state c.set_alpha.ensures)
