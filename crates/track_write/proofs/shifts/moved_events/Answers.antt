use Rattle.std.proofs.Common.{◌≡◌, ◌++◌, ◌∷◌, [], true, false, List, ℤ, Ok, map, w64, to_z, of_z, to_z-of_z, FitsSigned, Some, None, refl, sym, ap, ◌∙◌, subst, rules}
use Rattle.std.specs.Arc.{arc_value}
use Rattle.std.specs.List.{All}
use Rattle.std.proofs.lemmas.List.{drop_all}
use Rattle.std.proofs.lemmas.List.Elements.{All-push}
use Rattle.ass_events.specs.Events.{is_time}
use Rattle.ass_events.specs.Ranges.{IsEvent}
use Rattle.ass_events.specs.declared.event.Event.{Event}
use Rattle.track_write.specs.Shifts.{later_event, first_outside}
use Rattle.track_write.proofs.RowLemmas.{text_more, text_whole}
use Rattle.track_write.proofs.ShiftLemmas.{at_item, moved_sound, outside_here, outside_later, moved_is, refuse, shift_done}
use Rattle.track_write.proofs.shifts.moved_events.Goals as goal

pub put_moved-requires-clause-event : goal.put_moved-requires-clause-event
put_moved-requires-clause-event c = subst IsEvent (sym c.deref.ensures) (at_item arc_value c.args.events.now c.loop-event.event-index c.event-item.result c.requires.events c.loop-event-test.true c.event-item.is)

pub returns-in-Err-clause-answer : goal.returns-in-Err-clause-answer
returns-in-Err-clause-answer c =
    let fits : FitsSigned w64 c.args.by = search rules in
    let by = c.args.by in
    let events = c.args.events.now in
    let item = c.event-item.result in
    let so_far = rw (to_z-of_z fits) at c.loop-event.invariant.inside in
    let one = rw (to_z-of_z fits) at c.in-Err.ensures.answer in
    let P : Event → Type 0 = λ e. is_time (later_event by e).start ≡ false in
    refuse {V = Event} {W = List Event} (λ e. e) (λ es. es) by c.deref.result.now (map arc_value events) c.in-Err.refusal
    (λ out. sym so_far ∙ outside_here arc_value by events c.loop-event.event-index item c.loop-event-test.true c.event-item.is (subst P c.deref.ensures out) ∙ ap (λ (e : Event). Some e.order) (sym c.deref.ensures))
    one

pub loop-event-preserved : goal.loop-event-preserved
loop-event-preserved c =
    let by : ℤ = to_z w64 (of_z w64 c.args.by) in
    let events = c.args.events.now in
    let i = c.loop-event.event-index in
    let item = c.event-item.result in
    let event = c.deref.result.now in
    let inside = c.loop-event-test.true in
    let is : IsEvent event = subst IsEvent (sym c.deref.ensures) (at_item arc_value events i item c.requires.events inside c.event-item.is) in
    let time : is_time (later_event by event).start ≡ true = (moved_is by event (later_event by event) c.in-Ok.ensures.answer).0 in
    let P : Event → Type 0 = λ e. is_time (later_event by e).start ≡ true in
    let Q : List Event → Type 0 = λ es. All IsEvent es in
    record {
      inside = sym (outside_later arc_value by events i item inside c.event-item.is (subst P c.deref.ensures time)) ∙ c.loop-event.invariant.inside;
      done = text_more (λ xs. map (later_event by) (map arc_value xs)) (λ x. later_event by (arc_value x) ∷ []) (λ x xs. refl) (map arc_value c.loop-event.all.items) (map arc_value c.put_moved.new.all.items) events i item inside
          (c.in-Ok.ensures.put ∙ ap (λ e. map arc_value c.loop-event.all.items ++ later_event by e ∷ []) (c.deref.ensures ∙ ap arc_value c.event-item.is))
          ∙ c.loop-event.invariant.done;
      sound = subst Q (sym c.in-Ok.ensures.put) (All-push IsEvent (map arc_value c.loop-event.all.items) (later_event by event) c.loop-event.invariant.sound (moved_sound by event is time));
    }

pub returns-clause-answer : goal.returns-clause-answer
returns-clause-answer c =
    let fits : FitsSigned w64 c.args.by = search rules in
    let by = c.args.by in
    let events = c.args.events.now in
    let i = c.loop-event.event-index in
    let past = c.loop-event-test.false in
    let so_far = rw (to_z-of_z fits) at c.loop-event.invariant.inside in
    let done = rw (to_z-of_z fits) at c.loop-event.invariant.done in
    let none : first_outside by (map arc_value events) ≡ None = sym so_far ∙ ap (λ xs. first_outside by (map arc_value xs)) (drop_all i events past) in
    let all : map arc_value c.loop-event.all.items ≡ map (later_event by) (map arc_value events) =
    text_whole (λ xs. map (later_event by) (map arc_value xs)) (λ x. later_event by (arc_value x) ∷ []) (λ x xs. refl) (map arc_value c.loop-event.all.items) [] events i refl past done in
    shift_done by (map arc_value events) none ∙ ap Ok (sym all)
