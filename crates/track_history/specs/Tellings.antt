-- Public: what is kept of a track's history, and what it tells.
use Rattle.std.specs.Prelude.{◌≡◌, ◌↔◌, ℕ, ◌+◌, ◌*◌, ◌≤◌, List, length, map, Contains}
use Rattle.std.specs.Arc.{arc_value}
use Rattle.std.specs.Ordering.{nat_cmp}
use Rattle.std.specs.BTreeMap.{get}
use Rattle.ass_events.specs.declared.event.Event.{Event}
use Rattle.ass_events.specs.Histories.{Entry, IsHistory, max_live, max_flushes, live, flushes_of}
use Rattle.near_events.specs.declared.spans.EventSpan.{EventSpan}
use Rattle.track_history.specs.declared.live_events.LiveEvents.{LiveEvents}
use Rattle.near_events.specs.Spans.{IsSpanOf}
use Rattle.track_history.specs.Blocks.{IsNearIndex, spans_of}
use Rattle.track_history.specs.ShortEvents.{HaveShortEvents}
use Rattle.track_history.specs.Answers.{position_of}

-- the live events that are kept
abbrev pub events_of : LiveEvents → List Event
events_of kept = map arc_value kept.events.items

-- What is kept beside the live events fits them: the index has just their spans, and the map their places; and the counts fit.
pub record IsSound (kept : LiveEvents) : Type 0 where
  pub index : IsNearIndex kept.index.blocks.items
  pub spans : (s : EventSpan) → Contains (spans_of kept.index.blocks.items) s ↔ IsSpanOf (events_of kept) s
  pub places : (order : ℕ) → get nat_cmp kept.places order ≡ position_of order (events_of kept)
  pub few : length (events_of kept) ≤ max_live
  pub few_flushes : kept.flushes ≤ max_flushes
  pub counted : length (events_of kept) ≤ kept.entries
  pub bounded : kept.entries ≤ kept.flushes * (max_live + 1) + length (events_of kept)

-- What is kept tells of this history: its live events, and how many entries and flushes it has. It is legal, and its events are short.
pub record Tells (kept : LiveEvents) (history : List Entry) : Type 0 where
  pub events : events_of kept ≡ live history
  pub entries : kept.entries ≡ length history
  pub flushes : kept.flushes ≡ flushes_of history
  pub legal : IsHistory history
  pub short : HaveShortEvents history
