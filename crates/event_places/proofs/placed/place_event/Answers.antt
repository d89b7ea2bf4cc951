use Rattle.std.proofs.Common.{◌≡◌, ◌+◌, ◌∙◌, sym, ap, false, arith, rules, SFits, w64, None}
use Rattle.std.proofs.lemmas.Int.{to_z-of_z}
use Rattle.tag_state.specs.Choices.{has_point}
use Rattle.tag_state.specs.Views.{IsViewOf}
use Rattle.tag_state.proofs.TextLemmas.{point_shown}
use Rattle.event_places.specs.Steps.{Pointed, Shifted}
use Rattle.near_events.proofs.Lists.{none_from}
use Rattle.event_places.proofs.ClearLemmas.{boxes_wider}
use Rattle.event_places.proofs.placed.place_event.Goals as goal

pub returns-then-has_point-clause-placed : goal.returns-then-has_point-clause-placed
returns-then-has_point-clause-placed c =
    let items = c.in_ok-items.items in
    rw c.unmoved.ensures
    (Pointed items c.in_ok-items.ensures
    (record { items = items; reading = c.in_ok-items.ensures.reading; point = ap has_point (sym c.as_slice.ensures) ∙ (sym c.has_point.ensures ∙ c.if-has_point.true) }))

pub own_layout-requires-clause-shows : goal.own_layout-requires-clause-shows
own_layout-requires-clause-shows c =
    let f : SFits w64 c.args.event.now.start = search rules in
    rw (← c.setting.view_is) (rw (to_z-of_z w64 c.args.event.now.start f) at c.in_ok-view.ensures.view)

pub stand_of-stand-requires-clause-view : goal.stand_of-stand-requires-clause-view
stand_of-stand-requires-clause-view c = rw c.in_ok-own.ensures.view c.in_ok-view.ensures.range

pub stand_of-stand-requires-clause-pointless : goal.stand_of-stand-requires-clause-pointless
stand_of-stand-requires-clause-pointless c =
    let f : SFits w64 c.args.event.now.start = search rules in
    let shows : IsViewOf c.args.setting.now.script c.args.event.now c.args.event.now.start c.in_ok-view.view =
    rw (← c.setting.view_is) (rw (to_z-of_z w64 c.args.event.now.start f) at c.in_ok-view.ensures.view)
    in
    let none : has_point c.in_ok-items.items ≡ false = ap has_point (sym c.as_slice.ensures) ∙ (sym c.has_point.ensures ∙ c.if-has_point.false) in
    rw c.in_ok-own.ensures.view (none_from c.in_ok-view.view.pos (sym (point_shown c.in_ok-items.items c.in_ok-items.ensures.reading shows) ∙ none))

pub returns-clause-placed : goal.returns-clause-placed
returns-clause-placed c =
    let own = c.in_ok-own.own in
    let stand = c.stand_of-stand.result in
    let shift = c.in_ok-shift.shift in
    let fd : SFits w64 c.down_by.result = search rules in
    let fs : SFits w64 shift = search rules in
    let none : has_point c.in_ok-items.items ≡ false = ap has_point (sym c.as_slice.ensures) ∙ (sym c.has_point.ensures ∙ c.if-has_point.false) in
    let pointless : own.view.pos ≡ None = none_from own.view.pos (sym (point_shown c.in_ok-items.items c.in_ok-items.ensures.reading c.in_ok-own.ensures.own.shows) ∙ none) in
    rw (to_z-of_z w64 c.down_by.result fd, c.down_by.ensures, to_z-of_z w64 shift fs)
    (Shifted stand shift own c.place_clear.new.kept.boxes.items c.in_ok-items.items c.in_ok-items.ensures
    record { view = own.view; shows = c.in_ok-own.ensures.own.shows; pointless = pointless; laid = own.laid; laid_out = c.in_ok-own.ensures.own.laid_out; value = c.stand_of-stand.ensures.value }
    c.in_ok-own.ensures.own c.in_ok-shift.ensures.clearing)

pub returns-then-has_point-clause-within : goal.returns-then-has_point-clause-within
returns-then-has_point-clause-within c count h = boxes_wider count (count + 1) c.args.kept.now.boxes.items (omega arith) h
