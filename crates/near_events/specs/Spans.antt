-- Public: the spans of events, their order, and which of them matter at an instant.
use Rattle.std.specs.Prelude.{◌≡◌, ◌⊎◌, ℕ, ◌+◌, ◌≤◌, ◌+ℤ◌, ◌<ℤ◌, List, [], ◌∷◌, length, Some, slice_get, ℤ, Contains}
use Rattle.ass_events.specs.declared.event.Event.{Event}
use Rattle.ass_events.specs.Histories.{Pairwise}
use Rattle.ass_events.specs.NearEvents.{Span, IsEarlier, IsNear, span_of}
use Rattle.near_events.specs.declared.spans.EventSpan.{EventSpan}

abbrev pub span_at : EventSpan → Span
span_at s = record { layer = s.layer; start = s.start; end = s.end; order = s.order }

-- a stands before b: by layer, then start, then ReadOrder
abbrev pub StandsBefore : EventSpan → EventSpan → Type 0
StandsBefore a b = (a.layer <ℤ b.layer) ⊎ ((a.layer ≡ b.layer) × IsEarlier (span_at a) (span_at b))

-- none stands before one that comes earlier
abbrev pub AreSpansInOrder : List EventSpan → Type 0
AreSpansInOrder spans = Pairwise (λ a b. StandsBefore b a → ⊥) spans

-- no span is earlier than one before it
abbrev pub AreInTime : List EventSpan → Type 0
AreInTime spans = Pairwise (λ a b. IsEarlier (span_at b) (span_at a) → ⊥) spans

-- the span of the event at a place
abbrev pub event_span : Event → ℕ → EventSpan
event_span event place = record { layer = event.layer; start = event.start; end = event.start +ℤ event.duration; order = event.order; place = place }

-- the spans of events, of which the first has this place
abbrev pub spans_from : ℕ → List Event → List EventSpan
spans_from place [] = []
spans_from place (event ∷ events) = event_span event place ∷ spans_from (place + 1) events

-- the span is that of the event at its place
pub record IsSpanOf (events : List Event) (s : EventSpan) : Type 0 where
  pub event : Event
  pub stands : slice_get events s.place ≡ Some event
  pub span : s ≡ event_span event s.place

-- The spans are those of the events that matter at t, each once, in order.
pub record AreNearSpans (events : List Event) (t : ℤ) (near : List EventSpan) : Type 0 where
  pub own : (s : EventSpan) → Contains near s → IsSpanOf events s
  pub matters : (s : EventSpan) (e : Event) → Contains near s → slice_get events s.place ≡ Some e → IsNear span_of events t e
  pub all : (place : ℕ) (e : Event) → slice_get events place ≡ Some e → IsNear span_of events t e → Contains near (event_span e place)
  pub sorted : Pairwise StandsBefore near
  pub few : length near ≤ length events
