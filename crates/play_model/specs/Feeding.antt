-- Public: what is known of the answers to feeds. Entries are those behind the last flush.
use Rattle.std.specs.Prelude.{◌≡◌, ℕ, ◌+◌, ◌≤◌, List, [], ◌∷◌, ◌++◌, length, map, All, Contains}
use Rattle.turn_cell.specs.History.{entry_list}
use Rattle.ass_events.specs.Histories.{Entry, Chunk, flushes_of, max_live}
use Rattle.ass_events.specs.declared.event.Event.{Event}
use Rattle.track_history.specs.Answers.{fed_entry}
use Rattle.track_history.specs.declared.answers.Feed.{Feed}
use Rattle.track_history.specs.declared.answers.Feed.TheVariants.{Accepted, Repeated, Malformed, Full, OutOfMemory}

-- an event with this ReadOrder was accepted
pub record Has (entries : List Entry) (order : ℕ) : Type 0 where
  pub event : Event
  pub there : Contains entries (Chunk event)
  pub is : event.order ≡ order

-- an event with the answer to its feed
abbrev pub FeedAnswer : Type 0
FeedAnswer = Event × Feed

abbrev pub repeats : Feed → ℕ
repeats (Accepted place) = 0
repeats (Repeated place) = 1
repeats (Malformed field place) = 0
repeats (Full most) = 0
repeats OutOfMemory = 0

-- memory wasn't wanting
abbrev pub HasMemory : Feed → Type 0
HasMemory (Accepted place) = Unit {0}
HasMemory (Repeated place) = Unit {0}
HasMemory (Malformed field place) = Unit {0}
HasMemory (Full most) = Unit {0}
HasMemory OutOfMemory = ⊥

abbrev pub accepted_of : List FeedAnswer → List Entry
accepted_of [] = []
accepted_of (a ∷ answers) = entry_list (fed_entry a.0 a.1) ++ accepted_of answers

abbrev pub repeated_of : List FeedAnswer → ℕ
repeated_of [] = 0
repeated_of (a ∷ answers) = repeats a.1 + repeated_of answers

-- What the giver knows of an answer once it has seen `after`, where it had seen `before` at first: nobody flushes meanwhile where `after` has no flush.
abbrev pub IsKnownOf : List Entry → List Entry → Event → Feed → Type 0
IsKnownOf before after event (Accepted place) = flushes_of after ≡ 0 → Has before event.order → ⊥
IsKnownOf before after event (Repeated place) = flushes_of after ≡ 0 → Has after event.order
IsKnownOf before after event (Malformed field place) = ⊥
IsKnownOf before after event (Full most) = flushes_of after ≡ 0 → (max_live ≤ length after) × (Has before event.order → ⊥)
IsKnownOf before after event OutOfMemory = ⊥

abbrev pub IsKnown : List Entry → List Entry → FeedAnswer → Type 0
IsKnown before after a = IsKnownOf before after a.0 a.1

-- These events were offered one after another, with these entries given and so many answers `Repeated`.
pub record AreFed (before : List Entry) (events : List Event) (after given : List Entry) (repeated : ℕ) : Type 0 where
  pub answers : List FeedAnswer
  pub events_are : map (λ a. a.0) answers ≡ events
  pub given_are : given ≡ accepted_of answers
  pub repeated_are : repeated ≡ repeated_of answers
  pub known : All (IsKnown before after) answers

-- First the events of the batch before were offered once more, and then those of the batch.
pub record AreFedTwice (before : List Entry) (again batch : List Event) (after given : List Entry) (repeated : ℕ) : Type 0 where
  pub first_given : List Entry
  pub first_repeated : ℕ
  pub first : AreFed before again after first_given first_repeated
  pub second_given : List Entry
  pub second_repeated : ℕ
  pub second : AreFed before batch after second_given second_repeated
  pub given_are : given ≡ first_given ++ second_given
  pub repeated_are : repeated ≡ first_repeated + second_repeated
