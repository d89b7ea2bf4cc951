use Rattle.std.proofs.Common.{◌≡◌, ◌≢◌, [], ◌∷◌, ◌++◌, length, map, refl, sym, ap, subst, ◌∙◌, arith, Some, None}
use Rattle.std.specs.Ordering.{nat_cmp}
use Rattle.std.specs.BTreeMap.{Updates}
use Rattle.std.proofs.lemmas.List.{length-map, map_push}
use Rattle.near_events.specs.Spans.{event_span}
use Rattle.std.specs.Arc.{arc_value}
use Rattle.std.specs.List.{All}
use Rattle.ass_events.specs.declared.event.Event.{Event}
use Rattle.near_events.specs.declared.spans.EventSpan.{EventSpan}
use Rattle.track_history.specs.Answers.{position_of}
use Rattle.track_history.specs.Blocks.{spans_of}
use Rattle.track_history.specs.Tellings.{events_of}
use Rattle.track_history.proofs.Places.{new_order}
use Rattle.track_history.proofs.Soundness.{places_pushed, places_undone, places_unchanged, sound_accepted, sound_kept}
use Rattle.track_history.proofs.live_events.LiveEvents.accept.Goals as goal

pub returns-in_err-reserve-clause-sound : goal.returns-in_err-reserve-clause-sound
returns-in_err-reserve-clause-sound c =
    let sound = c.requires.sound in sound_kept c.args.self.now _ sound (ap (λ xs. map arc_value xs) c.reserve.ensures.items) sound.index refl sound.places refl refl

pub returns-in_err-insert-clause-sound : goal.returns-in_err-insert-clause-sound
returns-in_err-insert-clause-sound c =
    let sound = c.requires.sound in
    sound_kept c.args.self.now _ sound (ap (λ xs. map arc_value xs) c.reserve.ensures.items) sound.index refl (places_unchanged c.args.self.now.places c.insert.new.self _ c.in_err-insert.ensures.err sound.places) refl refl

pub insert-requires-2-clause-new : goal.insert-requires-2-clause-new
insert-requires-2-clause-new c =
    let spans = spans_of c.args.self.now.index.blocks.items in let e = arc_value c.args.event.now in let place = c.len-place.result in
    let is : c.of-span.result ≡ event_span e place = c.of-span.ensures ∙ ap (λ (z : Event). event_span z place) c.deref.ensures in
    subst (λ (x : EventSpan). All (λ (s : EventSpan). s.order ≢ x.order) spans) (sym is) (new_order (events_of c.args.self.now) spans e.order c.requires.sound.spans c.requires.new)

pub returns-in-Err-clause-sound : goal.returns-in-Err-clause-sound
returns-in-Err-clause-sound c =
    let sound = c.requires.sound in let order = λ (e : Event). e.order in
    sound_kept c.args.self.now _ sound (ap (λ xs. map arc_value xs) c.reserve.ensures.items) c.in-Err.ensures.index c.in-Err.ensures.err
    (places_undone c.args.self.now.places c.insert.new.self c.remove.new.self (events_of c.args.self.now) _ _ _ sound.places c.in_ok-insert.ensures.updates c.remove.ensures.updates
    (ap order c.deref-in-Err.ensures ∙ sym (ap order c.deref-2.ensures))
    (subst (λ (e : Event). position_of e.order (events_of c.args.self.now) ≡ None) (sym c.deref-2.ensures) c.requires.new)) refl refl

pub returns-clause-sound : goal.returns-clause-sound
returns-clause-sound c =
    let sound = c.requires.sound in let e = arc_value c.args.event.now in let place = c.len-place.result in
    let old = c.args.self.now in let shared = c.in_ok-shared.shared in
    let at : place ≡ length (events_of old) = omega (arith, c.len-place.ensures, length-map old.events.items arc_value, old.events.ok.0) in
    let is : c.of-span.result ≡ event_span e (length (events_of old)) = c.of-span.ensures ∙ (ap (λ (z : Event). event_span z place) c.deref.ensures ∙ ap (event_span e) at) in
    let pushed = c.push_reserved.ensures.items ∙ ap (λ xs. xs ++ shared ∷ []) c.reserve.ensures.items in
    sound_accepted old _ e c.of-span.result sound c.requires.room
    (ap (λ xs. map arc_value xs) pushed ∙ (map_push arc_value old.events.items shared ∙ ap (λ z. events_of old ++ z ∷ []) c.in_ok-shared.ensures))
    c.in-Ok.ensures.index c.in-Ok.ensures.ok is
    (places_pushed old.places c.insert.new.self (events_of old) e place sound.places (subst (λ (z : Event). Updates nat_cmp old.places c.insert.new.self z.order (Some place)) c.deref-2.ensures c.in_ok-insert.ensures.updates)
    at c.requires.new) refl refl
