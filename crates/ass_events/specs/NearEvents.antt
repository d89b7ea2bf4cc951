-- Public: when events are shown, and which of them matter for what is shown at an instant.
use Rattle.std.specs.Prelude.{◌≡◌, ◌⊎◌, ◌↔◌, ℕ, ◌<◌, ℤ, ◌+ℤ◌, ◌<ℤ◌, ◌≤ℤ◌, List, Contains}
use Rattle.ass_events.specs.declared.event.Event.{Event}
use Rattle.ass_events.specs.Histories.{Pairwise}

-- In which layer and from when until when an event is shown, and its ReadOrder. At `end` it isn't shown any more.
pub record Span : Type 0 where
  pub layer : ℤ
  pub start : ℤ
  pub end : ℤ
  pub order : ℕ

abbrev pub span_of : Event → Span
span_of event = record { layer = event.layer; start = event.start; end = event.start +ℤ event.duration; order = event.order }

abbrev pub IsShownAt : Span → ℤ → Type 0
IsShownAt span t = (span.start ≤ℤ t) × (t <ℤ span.end)

-- f stands earlier than e: by start, then ReadOrder.
abbrev pub IsEarlier : Span → Span → Type 0
IsEarlier f e = (f.start <ℤ e.start) ⊎ ((f.start ≡ e.start) × (f.order < e.order))

-- f comes before e: in the same layer, and earlier.
abbrev pub ComesBefore : Span → Span → Type 0
ComesBefore f e = (f.layer ≡ e.layer) × IsEarlier f e

-- What matters at t: what is shown at t, and with each e whatever comes before e and ends after e's start, since e is placed clear of it.
pub data IsNear {E : Type 0} (span : E → Span) (events : List E) (t : ℤ) : E → Type 0 where
  Shown : {e : E} → Contains events e → IsShownAt (span e) t → IsNear span events t e
  Chained : {e f : E} → IsNear span events t e → Contains events f → ComesBefore (span f) (span e) → (span e).start <ℤ (span f).end → IsNear span events t f

-- The list has just what matters at t, by start, then ReadOrder.
pub record AreNear {E : Type 0} (span : E → Span) (events : List E) (t : ℤ) (near : List E) : Type 0 where
  pub members : (e : E) → Contains near e ↔ IsNear span events t e
  pub sorted : Pairwise (λ e f. IsEarlier (span e) (span f)) near
