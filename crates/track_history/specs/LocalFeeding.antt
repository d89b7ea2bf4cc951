-- Public: what the track of one thread answers when it is fed or flushed, and what it is then.
use Rattle.std.specs.Prelude.{◌≡◌, ◌≢◌, ◌⊎◌, ◌+◌, ◌++◌, ◌∷◌, [], nat_le, if◌then◌else◌, List, length, fold, Result, Ok, Err}
use Rattle.ass_events.specs.Histories.{max_flushes}
use Rattle.ass_events.specs.declared.event.ChunkRefusal.{ChunkRefusal}
use Rattle.ass_events.specs.declared.event.Event.{Event}
use Rattle.track_history.specs.Answers.{answer_by, position_of, refused_answer}
use Rattle.track_history.specs.declared.answers.Feed.{Feed}
use Rattle.track_history.specs.declared.answers.Feed.TheVariants.{Accepted, Repeated, Malformed, Full, OutOfMemory}
use Rattle.track_history.specs.declared.answers.Flushed.{Flushed}
use Rattle.track_history.specs.declared.answers.Flushed.TheVariants.{Done, TooMany}
use Rattle.track_history.specs.LocalTracks.{LocalTrackView}

-- the answer to an event: the place of the live entry that has its ReadOrder, or that there is no room, or the place of its own entry
abbrev pub offer_answer : LocalTrackView → Event → Feed
offer_answer track event = answer_by (position_of event.order track.events) (length track.events) track.entries

-- the track after an event was answered so: accepted, it is the last of the live ones and an entry of the history
abbrev pub after_offer : LocalTrackView → Event → Feed → LocalTrackView
after_offer track event (Accepted place) = record track { events = track.events ++ event ∷ []; entries = track.entries + 1 }
after_offer track event (Repeated place) = track
after_offer track event (Malformed field place) = track
after_offer track event (Full most) = track
after_offer track event OutOfMemory = track

-- the track after an event was offered with memory at hand
abbrev pub with_offer : LocalTrackView → Event → LocalTrackView
with_offer track event = after_offer track event (offer_answer track event)

-- The event was offered. For out of memory nothing changed.
pub record IsOfferedTo (event : Event) (old new : LocalTrackView) (answer : Feed) : Type 0 where
  pub answered : answer ≢ OutOfMemory → answer ≡ offer_answer old event
  pub after : new ≡ after_offer old event answer

-- A chunk that gives an event offers it. One that gives none is refused as it is read, and changes nothing; so does out of memory.
abbrev pub IsChunkOffered : Result Event ChunkRefusal → LocalTrackView → LocalTrackView → Feed → Type 0
IsChunkOffered (Ok event) old new answer = IsOfferedTo event old new answer
IsChunkOffered (Err refusal) old new answer = (new ≡ old) × ((answer ≡ OutOfMemory) ⊎ (answer ≡ refused_answer refusal))

-- Some of the events were offered, from the first on.
pub record AreFrontOffered (events : List Event) (old new : LocalTrackView) : Type 0 where
  pub front : List Event
  pub back : List Event
  pub is : events ≡ front ++ back
  pub offered : new ≡ fold with_offer old front

-- ---- flushing

-- the answer to a flush
abbrev pub local_flush_answer : LocalTrackView → Flushed
local_flush_answer track = if nat_le max_flushes track.flushes then TooMany max_flushes else Done track.entries

-- the track after a flush was answered so: without live events, and the flush is an entry of the history
abbrev pub after_flush : LocalTrackView → Flushed → LocalTrackView
after_flush track (Done place) = record { events = []; entries = track.entries + 1; flushes = track.flushes + 1 }
after_flush track (TooMany most) = track

pub record IsFlushedLocally (old new : LocalTrackView) (answer : Flushed) : Type 0 where
  pub answered : answer ≡ local_flush_answer old
  pub after : new ≡ after_flush old answer
