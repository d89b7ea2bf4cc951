use Rattle.std.proofs.Common.{◌≤◌, All, ap, arith, length, subst, sym, []}
use Rattle.std.proofs.lemmas.List.{length-map}
use Rattle.std.specs.Arc.{arc_value}
use Rattle.ass_num.specs.Limits.{max_text_bytes}
use Rattle.ass_events.specs.Histories.{HaveOwnOrders}
use Rattle.ass_events.specs.Ranges.{IsEvent}
use Rattle.ass_events.specs.declared.event.Event.{Event}
use Rattle.ass_events.proofs.GivenEvents.{all_events, few_events, own_orders}
use Rattle.ass_events.proofs.events.events_of.Goals as goal

pub returns-clause-each : goal.returns-clause-each
returns-clause-each c =
    let script = c.args.script.now in
    subst (All IsEvent) (sym c.loop-i.invariant)
    (all_events script c.loop-i.i IsEvent (λ i e below is. c.lines_give_events.ensures.ranges script i e c.requires.script (omega (arith, below, c.loop-i.auto.i-end, c.line_count-i-end.ensures)) is))

pub returns-clause-texts : goal.returns-clause-texts
returns-clause-texts c =
    let script = c.args.script.now in
    subst (All (λ (e : Event). length e.text ≤ max_text_bytes)) (sym c.loop-i.invariant)
    (all_events script c.loop-i.i (λ (e : Event). length e.text ≤ max_text_bytes)
    (λ i e below is. omega (
      arith,
      c.texts_fit.ensures.lines script i e is,
      c.requires.short i [] (omega (arith, below, c.loop-i.auto.i-end, c.line_count-i-end.ensures)),
    )))

pub returns-clause-few : goal.returns-clause-few
returns-clause-few c =
    let script = c.args.script.now in
    omega (
      arith,
      few_events script c.loop-i.i,
      ap length c.loop-i.invariant,
      length-map c.loop-i.events.items arc_value,
      c.requires.script.few_lines,
      c.loop-i.auto.i-end,
      c.line_count-i-end.ensures,
    )

pub returns-clause-orders : goal.returns-clause-orders
returns-clause-orders c = subst HaveOwnOrders (sym c.loop-i.invariant) (own_orders c.args.script.now c.loop-i.i)
