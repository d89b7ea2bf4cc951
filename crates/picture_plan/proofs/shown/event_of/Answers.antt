use Rattle.std.proofs.Common.{◌≤◌, subst, sym, length, rules, arith}
use Rattle.std.proofs.lemmas.Grind.{common_steps}
use Rattle.std.proofs.lemmas.List.{length-map}
use Rattle.std.specs.Arc.{arc_value}
use Rattle.ass_num.specs.Limits.{max_text_bytes}
use Rattle.ass_events.specs.Ranges.{IsEvent}
use Rattle.ass_events.specs.declared.event.Event.{Event}
use Rattle.picture_plan.specs.ShownEvents.{no_event}
use Rattle.picture_plan.proofs.shown.event_of.Goals as goal

pub returns-clause-value : goal.returns-clause-value
returns-clause-value c = first_of (search rules, grind (arith, common_steps))

pub returns-clause-range : goal.returns-clause-range
returns-clause-range c =
    subst IsEvent (sym (returns-clause-value c)) (c.requires.events c.args.placed.now.place no_event (omega (arith, c.requires.place, length-map c.args.events.now arc_value)))

pub returns-clause-text : goal.returns-clause-text
returns-clause-text c =
    subst (λ (e : Event). length e.text ≤ max_text_bytes) (sym (returns-clause-value c))
    (c.requires.texts c.args.placed.now.place no_event (omega (arith, c.requires.place, length-map c.args.events.now arc_value)))
