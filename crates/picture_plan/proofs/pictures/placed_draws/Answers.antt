use Rattle.std.proofs.Common.{◌<◌, refl, ℕ, length, map, get_or, subst, sym, to_z-of_z, arith}
use Rattle.std.specs.List.{All}
use Rattle.std.proofs.lemmas.List.{length-map}
use Rattle.std.proofs.lemmas.List.Elements.{All-nil}
use Rattle.std.specs.Arc.{arc_value}
use Rattle.event_places.specs.declared.placed.PlacedEvent.{PlacedEvent}
use Rattle.event_draws.specs.MovedDraws.{AddsMovedDraws}
use Rattle.picture_plan.specs.Pictures.{None}
use Rattle.picture_plan.specs.ShownEvents.{AreByLayer, AreShownPlaces, event_shown, no_placed}
use Rattle.picture_plan.proofs.PlacedLemmas.{are_places, placed_own, placed_read}
use Rattle.picture_plan.proofs.PlanLemmas.{all_drawn, shown_drawn}
use Rattle.picture_plan.proofs.ShownLemmas.{no_shown}
use Rattle.picture_plan.proofs.pictures.placed_draws.Goals as goal

pub shown_events-requires-clause-places : goal.shown_events-requires-clause-places
shown_events-requires-clause-places c = are_places (map arc_value c.args.events.now) c.args.placed.now c.requires.placed

pub loop-one-init : goal.loop-one-init
loop-one-init c = rw c.new-draws.ensures (record { drawn = None; valid = All-nil _ })

pub add_shown_event-requires-clause-places : goal.add_shown_event-requires-clause-places
add_shown_event-requires-clause-places c =
    subst (λ (n : ℕ). All (λ (p : PlacedEvent). p.place < n) c.args.placed.now) (length-map c.args.events.now arc_value)
    (are_places (map arc_value c.args.events.now) c.args.placed.now c.requires.placed).within

pub add_shown_event-requires-clause-shifts : goal.add_shown_event-requires-clause-shifts
add_shown_event-requires-clause-shifts c = λ k d w. (c.requires.placed.each k d w).near

pub add_shown_event-requires-clause-own : goal.add_shown_event-requires-clause-own
add_shown_event-requires-clause-own c = placed_own (map arc_value c.args.events.now) c.args.placed.now c.requires.placed

pub add_shown_event-requires-clause-read : goal.add_shown_event-requires-clause-read
add_shown_event-requires-clause-read c = placed_read (map arc_value c.args.events.now) c.args.placed.now c.requires.placed

pub add_shown_event-requires-clause-place : goal.add_shown_event-requires-clause-place
add_shown_event-requires-clause-place c =
    let placed = c.args.placed.now in
    let items = c.as_slice-one-items.result.now in
    let are : AreShownPlaces (map arc_value c.args.events.now) placed c.args.t (length placed) items =
    subst (AreShownPlaces (map arc_value c.args.events.now) placed c.args.t (length placed)) (sym c.as_slice-one-items.ensures.value)
    (rw (to_z-of_z c.ranges.t) at c.in_ok-shown.ensures.shown)
    in
    (are.each c.loop-one.one-index no_shown c.loop-one-test.true).within

pub loop-one-preserved : goal.loop-one-preserved
loop-one-preserved c =
    let events = map arc_value c.args.events.now in
    let placed = c.args.placed.now in
    let items = c.as_slice-one-items.result.now in
    let one = get_or items c.loop-one.one-index no_shown in
    let are : AreShownPlaces events placed c.args.t (length placed) items =
    subst (AreShownPlaces events placed c.args.t (length placed)) (sym c.as_slice-one-items.ensures.value) (rw (to_z-of_z c.ranges.t) at c.in_ok-shown.ensures.shown)
    in
    let adds : AddsMovedDraws c.args.setting.now.script c.args.setting.now.fonts (event_shown events placed one) c.args.t c.args.setting.now.frame (get_or placed one.place no_placed).down c.loop-one.draws c.add_shown_event.new.draws =
    rw (to_z-of_z c.ranges.t) at c.in_ok-add_shown_event.ensures.draws
    in
    rw (to_z-of_z c.ranges.t)
    (record {
      drawn =
          shown_drawn events placed items c.loop-one.one-index no_shown (get_or placed one.place no_placed) c.loop-one.draws c.add_shown_event.new.draws c.requires.placed are
          c.loop-one-test.true refl (rw (to_z-of_z c.ranges.t) at c.loop-one.invariant.drawn) adds;
      valid = c.in_ok-add_shown_event.ensures.valid c.loop-one.invariant.valid;
    })

pub returns-clause-draws : goal.returns-clause-draws
returns-clause-draws c =
    let events = map arc_value c.args.events.now in
    let placed = c.args.placed.now in
    let items = c.as_slice-one-items.result.now in
    let are : AreShownPlaces events placed c.args.t (length placed) items =
    subst (AreShownPlaces events placed c.args.t (length placed)) (sym c.as_slice-one-items.ensures.value) (rw (to_z-of_z c.ranges.t) at c.in_ok-shown.ensures.shown)
    in
    let sorted : AreByLayer items = subst AreByLayer (sym c.as_slice-one-items.ensures.value) c.in_ok-shown.ensures.sorted in
    all_drawn events placed items c.loop-one.one-index c.loop-one.draws c.requires.orders c.requires.placed are sorted (omega (arith, c.loop-one-test.false))
    (rw (to_z-of_z c.ranges.t) at c.loop-one.invariant.drawn)
