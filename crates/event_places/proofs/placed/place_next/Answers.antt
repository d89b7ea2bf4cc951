use Rattle.std.proofs.Common.{◌≡◌, ◌+◌, ◌≤◌, ◌<◌, length, map, get_or, Some, arith}
use Rattle.std.specs.Arc.{arc_value}
use Rattle.std.specs.Prelude.{slice_get}
use Rattle.std.proofs.lemmas.List.Elements.{Contains-get_or}
use Rattle.ass_num.specs.Limits.{max_text_bytes}
use Rattle.ass_events.specs.Ranges.{IsEvent}
use Rattle.ass_events.specs.declared.event.Event.{Event}
use Rattle.near_events.proofs.NearSpans.{no_span}
use Rattle.near_events.proofs.Lists.{all_read, place_in_list, value_read}
use Rattle.event_places.proofs.ClearLemmas.{boxes_wider}
use Rattle.event_places.proofs.StepLemmas.{step_alone, step_moved}
use Rattle.event_places.proofs.placed.place_next.Goals as goal

pub returns-then-is_alone-clause-step : goal.returns-then-is_alone-clause-step
returns-then-is_alone-clause-step c span at =
    step_alone c.args.setting.now.script c.args.setting.now.fonts c.args.setting.now.frame (map arc_value c.args.events.now) c.args.near.now c.args.index span c.args.kept.now.boxes.items c.unmoved.result at
    (c.is_alone.ensures span at c.if-is_alone.true) c.unmoved.ensures

pub bounds-events-span : goal.bounds-events-span
bounds-events-span c =
    let s = get_or c.args.near.now c.args.index no_span in
    let own = c.requires.near s (Contains-get_or c.args.near.now c.args.index no_span c.requires.index) in
    place_in_list arc_value c.args.events.now s.place own.event own.stands

pub offset_bounds-events-span : goal.offset_bounds-events-span
offset_bounds-events-span c =
    let s = get_or c.args.near.now c.args.index no_span in
    let own = c.requires.near s (Contains-get_or c.args.near.now c.args.index no_span c.requires.index) in
    let within : s.place < length c.args.events.now = place_in_list arc_value c.args.events.now s.place own.event own.stands in
    omega (arith, within, c.requires.few)

pub place_event-requires-clause-event : goal.place_event-requires-clause-event
place_event-requires-clause-event c =
    let s = get_or c.args.near.now c.args.index no_span in
    let own = c.requires.near s (Contains-get_or c.args.near.now c.args.index no_span c.requires.index) in
    let within : s.place < length c.args.events.now = place_in_list arc_value c.args.events.now s.place own.event own.stands in
    rw c.deref.ensures (all_read arc_value IsEvent c.args.events.now s.place c.index-events-span.result c.requires.events within c.index-events-span.is)

pub place_event-requires-clause-few : goal.place_event-requires-clause-few
place_event-requires-clause-few c =
    let s = get_or c.args.near.now c.args.index no_span in
    let own = c.requires.near s (Contains-get_or c.args.near.now c.args.index no_span c.requires.index) in
    let within : s.place < length c.args.events.now = place_in_list arc_value c.args.events.now s.place own.event own.stands in
    rw c.deref.ensures (all_read arc_value (λ (e : Event). length e.text ≤ max_text_bytes) c.args.events.now s.place c.index-events-span.result c.requires.texts within c.index-events-span.is)

pub returns-clause-step : goal.returns-clause-step
returns-clause-step c span at =
    let s = get_or c.args.near.now c.args.index no_span in
    let own = c.requires.near s (Contains-get_or c.args.near.now c.args.index no_span c.requires.index) in
    let within : s.place < length c.args.events.now = place_in_list arc_value c.args.events.now s.place own.event own.stands in
    let event : slice_get (map arc_value c.args.events.now) s.place ≡ Some c.deref.result.now = rw c.deref.ensures (value_read arc_value c.args.events.now s.place c.index-events-span.result within c.index-events-span.is) in
    step_moved c.args.setting.now.script c.args.setting.now.fonts c.args.setting.now.frame (map arc_value c.args.events.now) c.args.near.now c.args.index span c.args.kept.now.boxes.items c.in_ok-one.one c.place_event.new.kept.boxes.items
    c.deref.result.now c.requires.index at event c.in_ok-one.ensures.placed

pub returns-then-is_alone-clause-within : goal.returns-then-is_alone-clause-within
returns-then-is_alone-clause-within c count h = boxes_wider count (count + 1) c.args.kept.now.boxes.items (omega arith) h
