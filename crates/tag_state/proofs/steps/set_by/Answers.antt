use Rattle.std.proofs.Common.{◌-◌, sym, subst, arith, None}
use Rattle.override_tags.specs.declared.tag.Tag.{Tag}
use Rattle.override_tags.specs.Ranges.{IsHeldTag}
use Rattle.tag_state.specs.Setters.{Plain}
use Rattle.tag_state.specs.Steps.{IsStepped}
use Rattle.tag_state.proofs.StepLemmas.{number_steps, colour_steps, alpha_steps}
use Rattle.tag_state.proofs.StateLemmas.{idle_steps}
use Rattle.tag_state.proofs.steps.set_by.Goals as goal

pub returns-in-Colour : goal.returns-in-Colour
returns-in-Colour c =
    let P : Tag → Type 0 = λ z. IsStepped c.args.style.now (Plain z) c.args.state.now c.set_colour.new.state in
    let held = subst IsHeldTag c.in-Colour.is c.requires in
    subst P (sym c.in-Colour.is)
    (colour_steps c.args.style.now c.in-Colour.which (c.in-Colour.which - 1) c.in-Colour.value None c.args.state.now c.set_colour.new.state (omega (arith, held.0)) (omega (arith, held.0, held.1, c.set_colour.ensures.four)) c.set_colour.ensures.written)

pub returns-in-Number : goal.returns-in-Number
returns-in-Number c =
    let P : Tag → Type 0 = λ z. IsStepped c.args.style.now (Plain z) c.args.state.now c.set_number.new.state in
    subst P (sym c.in-Number.is) (number_steps c.args.style.now c.in-Number.property c.in-Number.value c.args.state.now c.set_number.new.state c.set_number.ensures)

pub returns-in-Alpha : goal.returns-in-Alpha
returns-in-Alpha c =
    let P : Tag → Type 0 = λ z. IsStepped c.args.style.now (Plain z) c.args.state.now c.set_alpha.new.state in
    subst P (sym c.in-Alpha.is) (alpha_steps c.args.style.now c.in-Alpha.which c.in-Alpha.value None c.args.state.now c.set_alpha.new.state c.set_alpha.ensures)

pub returns-in_default : goal.returns-in_default
returns-in_default c = idle_steps c.args.tag.now c.args.style.now c.args.state.now c.in_default.not-Number c.in_default.not-Colour c.in_default.not-Alpha
