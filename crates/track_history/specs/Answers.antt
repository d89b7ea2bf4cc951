-- Public: what the calls of a track answer, and what they add to its history.
use Rattle.std.specs.Prelude.{◌≡◌, ◌≢◌, ◌<◌, ◌≤◌, ℕ, ℤ, ◌+◌, ◌-◌, ◌==◌, nat_le, if◌then◌else◌, List, [], ◌∷◌, ◌++◌, length, map, All, Option, Some, None, Result, Ok, Err}
use Rattle.std.specs.Arc.{arc_value}
use Rattle.std.specs.List.{position_from}
use Rattle.ass_events.specs.declared.event.Event.{Event}
use Rattle.ass_events.specs.declared.event.ChunkRefusal.{ChunkRefusal}
use Rattle.ass_events.specs.declared.event.ChunkRefusal.TheVariants as refusal
use Rattle.ass_events.specs.Histories.{Entry, Chunk, Flush, max_live, max_flushes, live, flushes_of}
use Rattle.ass_events.specs.NearEvents.{AreNear, span_of}
use Rattle.near_events.specs.Spans.{AreNearSpans}
use Rattle.track_history.specs.declared.answers.TrackEntry.{TrackEntry}
use Rattle.track_history.specs.declared.answers.TrackEntry.TheVariants as given
use Rattle.track_history.specs.declared.answers.Feed.{Feed}
use Rattle.track_history.specs.declared.answers.Feed.TheVariants.{Accepted, Repeated, Malformed, Full, OutOfMemory}
use Rattle.track_history.specs.declared.answers.Flushed.{Flushed}
use Rattle.track_history.specs.declared.answers.Flushed.TheVariants.{Done, TooMany}
use Rattle.track_history.specs.declared.answers.FromRefusal.{FromRefusal}
use Rattle.track_history.specs.declared.answers.FromRefusal.TheVariants as from
use Rattle.track_history.specs.declared.scene.Scene.{Scene}
use Rattle.track_history.specs.ShortEvents.{IsShortEvent}

-- an entry as a history has it
abbrev pub entry_of : TrackEntry → Entry
entry_of (given.Chunk event) = Chunk event.value
entry_of given.Flush = Flush

-- the history with one entry more, if there is one
abbrev pub extended : List Entry → Option Entry → List Entry
extended history None = history
extended history (Some entry) = history ++ entry ∷ []

abbrev pub read_orders : List Event → List ℕ
read_orders events = map (λ event. event.order) events

-- where the event of this ReadOrder is
abbrev pub position_of : ℕ → List Event → Option ℕ
position_of order events = position_from (λ event. event.order == order) 0 events

-- the answer to an event whose ReadOrder has this place among so many live events, at the end of so many entries
abbrev pub answer_by : Option ℕ → ℕ → ℕ → Feed
answer_by (Some place) lives entries = Repeated (entries - lives + place)
answer_by None lives entries = if nat_le max_live lives then Full max_live else Accepted entries

-- the answer to a feed of the event: the place of the live entry that has its ReadOrder, or that there is no room, or the place of its own entry
abbrev pub feed_answer : List Entry → Event → Feed
feed_answer history event = answer_by (position_of event.order (live history)) (length (live history)) (length history)

-- It is the answer, unless memory ran out.
abbrev pub IsFeedAnswer : List Entry → Event → Feed → Type 0
IsFeedAnswer history event answer = answer ≢ OutOfMemory → answer ≡ feed_answer history event

-- Memory ran out only where the event would have been accepted: no other answer takes any.
abbrev pub IsAcceptedElse : List Entry → Event → Feed → Type 0
IsAcceptedElse history event answer = answer ≡ OutOfMemory → feed_answer history event ≡ Accepted (length history)

-- what the feed of the event adds to the history
abbrev pub fed_entry : Event → Feed → Option Entry
fed_entry event (Accepted place) = Some (Chunk event)
fed_entry event (Repeated place) = None
fed_entry event (Malformed field place) = None
fed_entry event (Full most) = None
fed_entry event OutOfMemory = None

-- what the feed of a chunk that gives this event, or none, adds to the history
abbrev pub chunk_entry : Result Event ChunkRefusal → Feed → Option Entry
chunk_entry (Ok event) answer = fed_entry event answer
chunk_entry (Err refusal) answer = None

-- the answer to a chunk that gives no event
abbrev pub refused_answer : ChunkRefusal → Feed
refused_answer (refusal.Malformed field place) = Malformed field place
refused_answer refusal.OutOfMemory = OutOfMemory

-- the answer to a flush
abbrev pub flush_answer : List Entry → Flushed
flush_answer history = if nat_le max_flushes (flushes_of history) then TooMany max_flushes else Done (length history)

-- what a flush adds to the history
abbrev pub flushed_entry : Flushed → Option Entry
flushed_entry (Done place) = Some Flush
flushed_entry (TooMany most) = None

-- The scene has the length of the history, and of its live events those that matter at t, with their spans. Each is a short one.
pub record IsSceneOf (history : List Entry) (t : ℤ) (scene : Scene) : Type 0 where
  pub n : scene.n ≡ length history
  pub instant : scene.t ≡ t
  pub events : AreNear span_of (live history) t (map arc_value scene.events)
  pub spans : AreNearSpans (map arc_value scene.events) t scene.spans
  pub short : All IsShortEvent (map arc_value scene.events)

-- The scene of a history that has at least so many entries, or how many it has where these are fewer. Memory ran out only where it has enough.
abbrev pub IsSceneFrom : List Entry → ℤ → ℕ → Result Scene FromRefusal → Type 0
IsSceneFrom history t least (Ok scene) = (least ≤ length history) × IsSceneOf history t scene
IsSceneFrom history t least (Err (from.Behind n)) = (n ≡ length history) × (n < least)
IsSceneFrom history t least (Err from.OutOfMemory) = least ≤ length history
