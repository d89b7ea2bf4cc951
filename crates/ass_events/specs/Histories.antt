-- Public: histories of a track: the events that were accepted, and the flushes between them.
use Rattle.std.specs.Prelude.{◌≡◌, ◌≢◌, ℕ, ◌+◌, ◌≤◌, ◌==◌, ◌||◌, nat_le, Bool, if◌then◌else◌, List, [], ◌∷◌, ◌++◌, length, All}
use Rattle.std.specs.List.{list_any}
use Rattle.ass_events.specs.declared.event.Event.{Event}

-- An event was accepted, or all live events were dropped.
pub data Entry : Type 0 where
  Chunk : Event → Entry
  Flush : Entry

-- the most live events of a track
abbrev pub max_live : ℕ
max_live = 1000000

-- the most flushes of a track
abbrev pub max_flushes : ℕ
max_flushes = 1000000

-- R holds of each element and each later one.
abbrev pub Pairwise : {X : Type 0} → (X → X → Type 0) → List X → Type 0
Pairwise R [] = Unit {0}
Pairwise R (x ∷ xs) = All (R x) xs × Pairwise R xs

-- the live events after these entries, where these were live before
abbrev pub live_after : List Event → List Entry → List Event
live_after events [] = events
live_after events (Chunk event ∷ entries) = live_after (events ++ event ∷ []) entries
live_after events (Flush ∷ entries) = live_after [] entries

-- the live events: those of the chunks after the last flush, or of all where there is none
abbrev pub live : List Entry → List Event
live entries = live_after [] entries

-- how many flushes there are
abbrev pub flushes_of : List Entry → ℕ
flushes_of [] = 0
flushes_of (Chunk event ∷ entries) = flushes_of entries
flushes_of (Flush ∷ entries) = flushes_of entries + 1

-- The events have different ReadOrders.
abbrev pub HaveOwnOrders : List Event → Type 0
HaveOwnOrders events = Pairwise (λ e f. e.order ≢ f.order) events

-- A history has at most so many flushes, and at each of its entries the live events had different ReadOrders and were at most so many.
pub record IsHistory (entries : List Entry) : Type 0 where
  pub flushes : flushes_of entries ≤ max_flushes
  pub orders : (front rest : List Entry) → front ++ rest ≡ entries → HaveOwnOrders (live front)
  pub few : (front rest : List Entry) → front ++ rest ≡ entries → length (live front) ≤ max_live

-- whether one of the events has this ReadOrder
abbrev pub has_order : ℕ → List Event → Bool
has_order order events = list_any (λ event. event.order == order) events

-- the history after the event was offered: it is the last entry, unless a live event has its ReadOrder or there is no room
abbrev pub after : List Entry → Event → List Entry
after entries event = if has_order event.order (live entries) || nat_le max_live (length (live entries)) then entries else entries ++ Chunk event ∷ []

-- the history after a flush, which is the last entry, unless there are too many
abbrev pub flushed : List Entry → List Entry
flushed entries = if nat_le max_flushes (flushes_of entries) then entries else entries ++ Flush ∷ []
