-- Inner: those of the placed events of a list that are shown at an instant, in the order in which they are drawn.
use Rattle.std.specs.Prelude.{◌≡◌, ◌≢◌, ◌⊎◌, ℕ, ◌<◌, ◌&&◌, Bool, true, if◌then◌else◌, List, [], ◌∷◌, length, map, All, Contains, None, slice_index_or, ℤ, pos, ◌+ℤ◌, ◌<ℤ◌, int_le, int_lt}
use Rattle.ass_events.specs.Histories.{Pairwise}
use Rattle.ass_events.specs.declared.event.Event.{Event}
use Rattle.event_places.specs.declared.placed.PlacedEvent.{PlacedEvent}
use Rattle.picture_plan.specs.declared.shown.ShownEvent.{ShownEvent}

-- what stands for an event that isn't there
abbrev pub no_event : Event
no_event = record {
  order = 0;
  layer = pos 0;
  style = [];
  name = [];
  margin_l = pos 0;
  margin_r = pos 0;
  margin_v = pos 0;
  effect = [];
  text = [];
  start = pos 0;
  duration = pos 0;
}

-- what stands for a place that isn't there
abbrev pub no_placed : PlacedEvent
no_placed = record { place = 0; down = pos 0; own = None; read = None }

-- the event of a place
abbrev pub placed_event : List Event → PlacedEvent → Event
placed_event events placed = slice_index_or events placed.place no_event

-- the event of place k
abbrev pub event_placed_at : List Event → List PlacedEvent → ℕ → Event
event_placed_at events placed k = placed_event events (slice_index_or placed k no_placed)

-- the event of a shown event
abbrev pub event_shown : List Event → List PlacedEvent → ShownEvent → Event
event_shown events placed shown = event_placed_at events placed shown.place

-- whether an event is shown at t
abbrev pub is_shown_at : ℤ → Event → Bool
is_shown_at t event = int_le event.start t && int_lt t (event.start +ℤ event.duration)

-- what is kept of the event of place k, if it is shown
abbrev pub shown_if : ℤ → Event → ℕ → List ShownEvent
shown_if t event k = if is_shown_at t event then record { layer = event.layer; order = event.order; place = k } ∷ [] else []

-- The places are places of the events, no two of the same one.
pub record ArePlaces (events : List Event) (placed : List PlacedEvent) : Type 0 where
  pub within : All (λ (p : PlacedEvent). p.place < length events) placed
  pub once : (i j : ℕ) (d : PlacedEvent) → i < j → j < length placed → (slice_index_or placed i d).place ≢ (slice_index_or placed j d).place

-- It tells the layer and the ReadOrder of the event of one of the first n places, which is shown at t.
pub record IsShownPlace (events : List Event) (placed : List PlacedEvent) (t : ℤ) (n : ℕ) (shown : ShownEvent) : Type 0 where
  pub within : shown.place < n
  pub layer : shown.layer ≡ (event_shown events placed shown).layer
  pub order : shown.order ≡ (event_shown events placed shown).order
  pub shows : is_shown_at t (event_shown events placed shown) ≡ true

-- They tell each event of the first n places that is shown at t, once.
pub record AreShownPlaces (events : List Event) (placed : List PlacedEvent) (t : ℤ) (n : ℕ) (shown : List ShownEvent) : Type 0 where
  pub each : All (IsShownPlace events placed t n) shown
  pub all : (k : ℕ) → k < n → is_shown_at t (event_placed_at events placed k) ≡ true → Contains (map (λ (s : ShownEvent). s.place) shown) k
  pub once : Pairwise (λ (a b : ShownEvent). a.place ≢ b.place) shown

-- a is drawn before b
abbrev pub IsDrawnUnder : ShownEvent → ShownEvent → Type 0
IsDrawnUnder a b = (a.layer <ℤ b.layer) ⊎ ((a.layer ≡ b.layer) × (a.order < b.order))

-- None is drawn before one that stands before it.
abbrev pub AreByLayer : List ShownEvent → Type 0
AreByLayer shown = Pairwise (λ a b. IsDrawnUnder b a → ⊥) shown
