use Rattle.std.proofs.Common.{◌≡◌, ◌∙◌, sym, map, get_or, subst, to_z-of_z, rules, arith}
use Rattle.std.specs.Prelude.{IfSome}
use Rattle.std.proofs.lemmas.Grind.{common_steps}
use Rattle.std.proofs.lemmas.List.{get_or_default}
use Rattle.std.proofs.lemmas.Result.{on_ok_weaker}
use Rattle.std.specs.Arc.{arc_value}
use Rattle.ass_events.specs.declared.event.Event.{Event}
use Rattle.event_places.specs.PlacedEvents.{IsOwnLayout}
use Rattle.event_places.specs.declared.placed.PlacedEvent.{PlacedEvent}
use Rattle.tag_state.specs.Views.{AreReadItems}
use Rattle.event_draws.specs.MovedDraws.{AddsMovedDraws}
use Rattle.picture_plan.specs.ShownEvents.{event_shown, no_placed, placed_event}
use Rattle.picture_plan.proofs.pictures.add_shown_event.Goals as goal

pub add_placed_event-requires-clause-own : goal.add_placed_event-requires-clause-own
add_placed_event-requires-clause-own c =
    let events = map arc_value c.args.events.now in
    let place = c.args.shown.now.place in
    let one = c.index-placed-shown.result in
    let here : one ≡ get_or c.args.placed.now place no_placed = c.index-placed-shown.is ∙ get_or_default c.args.placed.now place one no_placed c.requires.place in
    let at : c.event_of-event.result.now ≡ event_shown events c.args.placed.now c.args.shown.now = first_of (search rules, grind (arith, common_steps)) in
    subst (λ (e : Event). IfSome one.own (IsOwnLayout c.args.setting.now.script c.args.setting.now.fonts c.args.setting.now.frame e)) (sym at)
    (subst (λ (p : PlacedEvent). IfSome p.own (IsOwnLayout c.args.setting.now.script c.args.setting.now.fonts c.args.setting.now.frame (placed_event events (get_or c.args.placed.now place no_placed)))) (sym here)
    (c.requires.own place no_placed c.requires.place))

pub add_placed_event-requires-clause-read : goal.add_placed_event-requires-clause-read
add_placed_event-requires-clause-read c =
    let events = map arc_value c.args.events.now in
    let place = c.args.shown.now.place in
    let one = c.index-placed-shown.result in
    let here : one ≡ get_or c.args.placed.now place no_placed = c.index-placed-shown.is ∙ get_or_default c.args.placed.now place one no_placed c.requires.place in
    let at : c.event_of-event.result.now ≡ event_shown events c.args.placed.now c.args.shown.now = first_of (search rules, grind (arith, common_steps)) in
    subst (λ (e : Event). IfSome one.read (AreReadItems e.text)) (sym at)
    (subst (λ (p : PlacedEvent). IfSome p.read (AreReadItems (placed_event events (get_or c.args.placed.now place no_placed)).text)) (sym here)
    (c.requires.read place no_placed c.requires.place))

pub returns-clause-draws : goal.returns-clause-draws
returns-clause-draws c =
    let event = event_shown (map arc_value c.args.events.now) c.args.placed.now c.args.shown.now in
    let place = c.args.shown.now.place in
    let one = c.index-placed-shown.result in
    let here : one ≡ get_or c.args.placed.now place no_placed = c.index-placed-shown.is ∙ get_or_default c.args.placed.now place one no_placed c.requires.place in
    let at : c.event_of-event.result.now ≡ event = first_of (search rules, grind (arith, common_steps)) in
    on_ok_weaker c.add_placed_event.result
    (λ h.
    subst (λ (p : PlacedEvent). AddsMovedDraws c.args.setting.now.script c.args.setting.now.fonts event c.args.t c.args.setting.now.frame p.down c.args.draws.now c.add_placed_event.new.draws) here
    (subst (λ (e : Event). AddsMovedDraws c.args.setting.now.script c.args.setting.now.fonts e c.args.t c.args.setting.now.frame one.down c.args.draws.now c.add_placed_event.new.draws) at
    (rw (to_z-of_z c.ranges.t) at h)))
    c.add_placed_event.ensures.draws
