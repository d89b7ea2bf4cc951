-- The draws of one more event.
use Rattle.std.proofs.Common.{◌≡◌, sym, subst, ℕ, ◌+◌, ◌<◌, ◌≤◌, List, [], ◌∷◌, ◌++◌, length, map, get_or, take, ℤ, append_assoc}
use Rattle.std.proofs.lemmas.List.{append-nil, map_more, take_all}
use Rattle.frame_view.specs.declared.view.FrameView.{FrameView}
use Rattle.ass_events.specs.Histories.{HaveOwnOrders}
use Rattle.ass_events.specs.declared.event.Event.{Event}
use Rattle.ass_script.specs.Scripts.{ScriptValue}
use Rattle.bdf_font.specs.Fonts.{FontValue}
use Rattle.event_places.specs.PlacedEvents.{ArePlacedEvents}
use Rattle.event_places.specs.Shifts.{IsMovedBy}
use Rattle.event_places.specs.declared.placed.PlacedEvent.{PlacedEvent}
use Rattle.mask_keys.specs.declared.plans.Draw.{Draw}
use Rattle.event_draws.specs.MovedDraws.{AddsMovedDraws}
use Rattle.picture_plan.specs.Pictures.{AreDraws, AreDrawsInOrder, AreEventDraws, None, Next}
use Rattle.picture_plan.specs.ShownEvents.{AreByLayer, AreShownPlaces, placed_event, event_shown, no_placed}
use Rattle.picture_plan.specs.declared.shown.ShownEvent.{ShownEvent}
use Rattle.picture_plan.proofs.PlacedLemmas.{are_places, near_placed, placed_moved}
use Rattle.picture_plan.proofs.ShownLemmas.{are_shown}

in_order_more : {script : ScriptValue} {fonts : List FontValue} {events : List Event} {t : ℤ} {frame : FrameView} (shown : List Event) (draws added : List Draw) (event : Event)
    → AreDrawsInOrder script fonts events t frame shown draws → AreEventDraws script fonts events t frame event added
    → AreDrawsInOrder script fonts events t frame (shown ++ event ∷ []) (draws ++ added)
in_order_more {script} {fonts} {events} {t} {frame} _ _ added event None h =
    subst (λ (z : List Draw). AreDrawsInOrder script fonts events t frame (event ∷ []) z) (append-nil added) (Next event [] added [] h None)
in_order_more {script} {fonts} {events} {t} {frame} _ _ added event (Next first above draws rest drawn others) h =
    subst (λ (z : List Draw). AreDrawsInOrder script fonts events t frame (first ∷ (above ++ event ∷ [])) z) (sym (append_assoc draws rest added))
    (Next first (above ++ event ∷ []) draws (rest ++ added) drawn (in_order_more above rest added event others h))

-- One more of the shown events is drawn, which stands where it is moved to.
pub drawn_more : {script : ScriptValue} {fonts : List FontValue} {events : List Event} {t : ℤ} {frame : FrameView} {X : Type 0} (f : X → Event) (shown : List X) (k : ℕ) (d : X)
    (before after : List Draw) (shift : ℤ) → k < length shown → AreDrawsInOrder script fonts events t frame (map f (take k shown)) before
    → IsMovedBy script fonts frame events (f (get_or shown k d)) shift → AddsMovedDraws script fonts (f (get_or shown k d)) t frame shift before after
    → AreDrawsInOrder script fonts events t frame (map f (take (k + 1) shown)) after
drawn_more {script} {fonts} {events} {t} {frame} f shown k d before after shift within h moved adds =
    let event = f (get_or shown k d) in
    let more : AreDrawsInOrder script fonts events t frame (map f (take k shown) ++ event ∷ []) (before ++ adds.added) =
    in_order_more (map f (take k shown)) before adds.added event h (record { shift = shift; moved = moved; drawn = adds.drawn }) in
    subst (λ (z : List Draw). AreDrawsInOrder script fonts events t frame (map f (take (k + 1) shown)) z) (sym adds.whole)
    (subst (λ (z : List Event). AreDrawsInOrder script fonts events t frame z (before ++ adds.added)) (sym (map_more f shown k d within)) more)

-- One more of the shown events, by its place.
pub shown_drawn : {script : ScriptValue} {fonts : List FontValue} {t : ℤ} {frame : FrameView} (events : List Event) (placed : List PlacedEvent) (shown : List ShownEvent) (k : ℕ) (d : ShownEvent)
    (p : PlacedEvent) (before after : List Draw) → ArePlacedEvents script fonts frame events t placed → AreShownPlaces events placed t (length placed) shown → k < length shown
    → p ≡ get_or placed (get_or shown k d).place no_placed → AreDrawsInOrder script fonts events t frame (map (event_shown events placed) (take k shown)) before
    → AddsMovedDraws script fonts (placed_event events p) t frame p.down before after
    → AreDrawsInOrder script fonts events t frame (map (event_shown events placed) (take (k + 1) shown)) after
shown_drawn {script} {fonts} {t} {frame} events placed shown k d p before after h are within is drawn adds =
    let place = (get_or shown k d).place in
    drawn_more (event_shown events placed) shown k d before after (get_or placed place no_placed).down within drawn
    (placed_moved events placed place h (are.each k d within).within)
    (subst (λ (q : PlacedEvent). AddsMovedDraws script fonts (placed_event events q) t frame q.down before after) is adds)

-- The draws of all shown events.
pub all_drawn : {script : ScriptValue} {fonts : List FontValue} {t : ℤ} {frame : FrameView} (events : List Event) (placed : List PlacedEvent) (shown : List ShownEvent) (k : ℕ) (draws : List Draw)
    → HaveOwnOrders events → ArePlacedEvents script fonts frame events t placed → AreShownPlaces events placed t (length placed) shown → AreByLayer shown → length shown ≤ k
    → AreDrawsInOrder script fonts events t frame (map (event_shown events placed) (take k shown)) draws → AreDraws script fonts events t frame draws
all_drawn {script} {fonts} {t} {frame} events placed shown k draws own h are sorted all drawn = record {
  shown = map (event_shown events placed) shown;
  are_shown = are_shown events placed t shown (are_places events placed h) own (near_placed events placed h) are sorted;
  in_order = subst (λ (z : List ShownEvent). AreDrawsInOrder script fonts events t frame (map (event_shown events placed) z) draws) (take_all k shown all) drawn;
}
