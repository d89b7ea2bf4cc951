-- The places of the events that matter: each is a place of the list, no two are one, and each event that matters has one.
use Rattle.std.proofs.Common.{◌≡◌, ◌≢◌, sym, subst, ◌∙◌, ℕ, ◌<◌, List, length, get_or, ℤ, arith}
use Rattle.std.specs.Prelude.{IfSome}
use Rattle.std.specs.List.{All}
use Rattle.std.proofs.lemmas.List.{get_or-map, length-map}
use Rattle.std.proofs.lemmas.Option.{get_or_from_slice_get, slice_get-get_or, slice_get_within}
use Rattle.frame_view.specs.declared.view.FrameView.{FrameView}
use Rattle.ass_events.specs.NearEvents.{IsNear, span_of}
use Rattle.ass_events.specs.declared.event.Event.{Event}
use Rattle.ass_script.specs.Scripts.{ScriptValue}
use Rattle.bdf_font.specs.Fonts.{FontValue}
use Rattle.tag_state.specs.Views.{AreReadItems}
use Rattle.event_places.specs.PlacedEvents.{ArePlacedEvents, IsOwnLayout, placed_places}
use Rattle.event_places.specs.Shifts.{IsMovedBy}
use Rattle.event_places.specs.declared.placed.PlacedEvent.{PlacedEvent}
use Rattle.picture_plan.specs.ShownEvents.{ArePlaces, event_placed_at, no_event, no_placed, placed_event}
use Rattle.picture_plan.proofs.ShownLemmas.{at_pairwise}

abbrev place_in : PlacedEvent → ℕ
place_in p = p.place

pub are_places : {script : ScriptValue} {fonts : List FontValue} {frame : FrameView} {t : ℤ} (events : List Event) (placed : List PlacedEvent)
    → ArePlacedEvents script fonts frame events t placed → ArePlaces events placed
are_places events placed h = record {
  within = λ k d w. let p = h.each k d w in slice_get_within events (get_or placed k d).place p.event p.stands;
  once =
      λ i j d order last.
      let differ = at_pairwise (λ a b. a ≢ b) (placed_places placed) i j 0 h.once order (omega (arith, last, length-map placed place_in)) in
      λ same.
      differ (get_or-map place_in placed i d 0 (omega (arith, order, last)) ∙ same ∙ sym (get_or-map place_in placed j d 0 last));
}

pub near_placed : {script : ScriptValue} {fonts : List FontValue} {frame : FrameView} {t : ℤ} (events : List Event) (placed : List PlacedEvent)
    → ArePlacedEvents script fonts frame events t placed → (k : ℕ) → k < length events → IsNear span_of events t (get_or events k no_event)
    → (j : ℕ) × (j < length placed) × ((get_or placed j no_placed).place ≡ k)
near_placed events placed h k within near =
    let c = (h.members k).1 (record { event = get_or events k no_event; stands = slice_get-get_or events k no_event within; matters = near }) in
    let w : c.0 < length placed = omega (arith, c.1, length-map placed place_in) in
    (c.0, w, sym (get_or-map place_in placed c.0 no_placed k w) ∙ c.2)

-- the event of a place is moved so far
pub placed_moved : {script : ScriptValue} {fonts : List FontValue} {frame : FrameView} {t : ℤ} (events : List Event) (placed : List PlacedEvent) (k : ℕ)
    → ArePlacedEvents script fonts frame events t placed → k < length placed
    → IsMovedBy script fonts frame events (event_placed_at events placed k) (get_or placed k no_placed).down
placed_moved {script} {fonts} {frame} events placed k h within =
    let p = h.each k no_placed within in
    subst (λ (e : Event). IsMovedBy script fonts frame events e (get_or placed k no_placed).down)
    (sym (get_or_from_slice_get events (get_or placed k no_placed).place p.event no_event p.stands)) p.moved

-- the own layout of a placed event is right for the event of its place
pub placed_own : {script : ScriptValue} {fonts : List FontValue} {frame : FrameView} {t : ℤ} (events : List Event) (placed : List PlacedEvent)
    → ArePlacedEvents script fonts frame events t placed → All (λ (p : PlacedEvent). IfSome p.own (IsOwnLayout script fonts frame (placed_event events p))) placed
placed_own {script} {fonts} {frame} events placed h = λ k d within.
    let p = h.each k d within in
    subst (λ (e : Event). IfSome (get_or placed k d).own (IsOwnLayout script fonts frame e)) (sym (get_or_from_slice_get events (get_or placed k d).place p.event no_event p.stands))
    p.own

-- what was read of the text of a placed event is right for the event of its place
pub placed_read : {script : ScriptValue} {fonts : List FontValue} {frame : FrameView} {t : ℤ} (events : List Event) (placed : List PlacedEvent)
    → ArePlacedEvents script fonts frame events t placed → All (λ (p : PlacedEvent). IfSome p.read (AreReadItems (placed_event events p).text)) placed
placed_read events placed h = λ k d within.
    let p = h.each k d within in
    subst (λ (e : Event). IfSome (get_or placed k d).read (AreReadItems e.text)) (sym (get_or_from_slice_get events (get_or placed k d).place p.event no_event p.stands)) p.read
