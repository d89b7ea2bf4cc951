-- Public: what the rounds of a play feed.
use Rattle.std.specs.Prelude.{◌≡◌, ℕ, ◌+◌, ◌<◌, ◌≤◌, ◌/◌, List, [], ◌++◌, length, All, Ok}
use Rattle.ass_num.specs.Limits.{max_text_bytes}
use Rattle.ass_events.specs.Events.{chunk_bytes, event_of_line}
use Rattle.ass_events.specs.Histories.{Entry, live}
use Rattle.ass_events.specs.declared.event.Event.{Event}
use Rattle.picture_plan.specs.Pictures.{HaveSameEvents}
use Rattle.play_shares.specs.Batches.{again_lines, good_lines}
use Rattle.run_words.specs.declared.job.Mode.TheVariants.{Live}
use Rattle.ass_events.specs.ScriptEvents.{line_events}
use Rattle.play_model.specs.Feeding.{AreFedTwice}
use Rattle.play_model.specs.Images.{IsCountAt, entries_before}
use Rattle.play_model.specs.Interleavings.{IsInterleaving}
use Rattle.play_model.specs.Plays.{IsFedTo, IsPlayable, IsTimeOf, PlayView, all_feeding, events_again, events_at, events_in, good_before, good_count, good_flags, repeated_before, repeated_count}

-- In a round each feeder offered its events: so many answers were `Repeated`.
pub record IsFedRound (play : PlayView) (round : ℕ) (before fresh : List Entry) (given : ℕ → List Entry) (repeated : ℕ → ℕ) : Type 0 where
  pub there : IsFedTo play round before
  pub new : IsInterleaving play.job.feeders given fresh
  pub fed : (feeder : ℕ) → feeder < play.job.feeders → AreFedTwice before (events_again play round feeder) (events_in play round feeder) (before ++ fresh) (given feeder) (repeated feeder)

-- A round adds its batches, each event once, and just the events that are offered once more are repeated.
abbrev pub RoundsFeedOn : Type 0
RoundsFeedOn =
    (play : PlayView) (round : ℕ) (before fresh : List Entry) (given : ℕ → List Entry) (repeated : ℕ → ℕ) → IsPlayable play → IsFedRound play round before fresh given repeated
    → IsFedTo play (round + 1) (before ++ fresh) × ((feeder : ℕ) → feeder < play.job.feeders → repeated feeder ≡ length (again_lines play.job (good_flags play.script) round feeder))

-- What is fed in so many rounds has as many entries as their batches have events.
abbrev pub RoundsAreCounted : Type 0
RoundsAreCounted = (play : PlayView) (rounds : ℕ) (fresh : List Entry) → IsFedTo play rounds fresh → length fresh ≡ good_before play rounds

-- After so many rounds as feed all lines the time is whole, and no event is repeated any more.
abbrev pub AllRoundsFeedAll : Type 0
AllRoundsFeedAll =
    (play : PlayView) (rounds : ℕ) (fresh : List Entry) → IsPlayable play → all_feeding play ≤ rounds → IsFedTo play rounds fresh
    → IsTimeOf play fresh × (repeated_before play rounds ≡ repeated_count play)

-- A time has as many entries as the script has events, and behind a history of which nothing is live just these events are live.
abbrev pub TimesHaveAllEvents : Type 0
TimesHaveAllEvents =
    (play : PlayView) (old time : List Entry) → IsPlayable play → live old ≡ [] → IsTimeOf play time
    → (length time ≡ length (line_events play.script)) × (length time ≡ good_count play) × HaveSameEvents (live (old ++ time)) (line_events play.script)

-- Live, an image shows no more than its time's entries, and all of them once all lines were fed in earlier rounds.
abbrev pub LiveCountsAreBounded : Type 0
LiveCountsAreBounded =
    (play : PlayView) (q i n : ℕ) → IsPlayable play → IsCountAt play q i Live n
    → (n ≤ entries_before play q + good_count play) × (all_feeding play ≤ i / play.job.renderers → n ≡ entries_before play q + good_count play)

-- Lines that give no event have none.
abbrev pub GoodLinesHaveAllEvents : Type 0
GoodLinesHaveAllEvents =
    (play : PlayView) (lines : List ℕ) → All (λ i. i < length play.script.lines) lines
    → (events_at play.script (good_lines (good_flags play.script) lines) ≡ events_at play.script lines)

-- The chunk of a line may be fed.
abbrev pub LinesHaveShortChunks : Type 0
LinesHaveShortChunks =
    (play : PlayView) (i : ℕ) (event : Event) → IsPlayable play → i < length play.script.lines → event_of_line play.script i ≡ Ok event → length (chunk_bytes event) ≤ max_text_bytes
