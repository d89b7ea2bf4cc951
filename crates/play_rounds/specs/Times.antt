-- Inner: the times of a play.
use Rattle.std.specs.Prelude.{◌≡◌, ℕ, ◌*◌, ◌≤◌, List, [], ◌∷◌, ◌++◌, length, map, filter, not, All, Bool, Result, Ok, Err}
use Rattle.ass_events.specs.Histories.{Entry, live}
use Rattle.evict_core.specs.declared.counts.Totals.{Totals}
use Rattle.run_words.specs.declared.job.PlayJob.{PlayJob}
use Rattle.play_shares.specs.Instants.{frame_count, instant_count}
use Rattle.play_model.specs.Images.{ShownImage, entries_before, shown_pieces}
use Rattle.play_model.specs.Outputs.{AreImages, AreShownImages, IsPlayedSoFar}
use Rattle.play_model.specs.Times.{history_before}
use Rattle.play_model.specs.Plays.{IsFedTo, IsTimeOf, PlayView, history_of_times, repeated_count}
use Rattle.play_rounds.specs.Playing.{AreFirstImages, IsShiftStopped}
use Rattle.play_rounds.specs.declared.ends.PlayEnd.{PlayEnd}
use Rattle.play_rounds.specs.declared.ends.PlayEnd.TheVariants.{Done, WriteFault, OutOfMemory}
use Rattle.play_rounds.specs.declared.ends.Stop.{Stop}
use Rattle.play_rounds.specs.declared.ends.Stop.TheVariants as stop
use Rattle.play_rounds.specs.declared.ends.Played.{Played}
use Rattle.track_history.specs.Answers.{read_orders}

-- Time q was played whole behind a history of which nothing is live, with these images.
pub record IsTimePlayed (play : PlayView) (old : List Entry) (q : ℕ) (history : List Entry) (repeated : ℕ) (images : List ShownImage) : Type 0 where
  pub time : List Entry
  pub is_time : IsTimeOf play time
  pub rounds : ℕ
  pub fed : IsFedTo play rounds time
  pub is : history ≡ old ++ time
  pub repeated_are : repeated ≡ repeated_count play
  pub images_are : AreFirstImages play history q (instant_count play.job) images

-- So many times were played whole, one behind another, with these images.
pub record AreTimesPlayed (play : PlayView) (times : List (List Entry)) (history : List Entry) (images : List ShownImage) : Type 0 where
  pub each : All (IsTimeOf play) times
  pub is : history ≡ history_of_times times
  pub many : length images ≡ length times * instant_count play.job
  pub are : AreShownImages play history images

-- A time more was played, with these images. It has so many repeated events, and these ReadOrders.
pub record IsTimeMore (play : PlayView) (times : List (List Entry)) (images : List ShownImage) (history : List Entry) (repeated : ℕ) (orders : List ℕ) (next : List ShownImage) : Type 0 where
  pub time : List Entry
  pub rounds : ℕ
  pub fed : IsFedTo play rounds time
  pub all : AreTimesPlayed play (times ++ time ∷ []) history (images ++ next)
  pub repeated_are : repeated ≡ repeated_count play
  pub orders_are : orders ≡ read_orders (live time)

-- What a time comes to behind whatever is dead: it was played whole, with so many repeated events, and images were written.
abbrev pub PlaysTime : PlayView → List Entry → List Entry → ℕ → (List ShownImage → Type 0) → Type 0
PlaysTime play history history' more Written =
    (q : ℕ) → live history ≡ [] → length history ≡ entries_before play q
    → (images : List ShownImage) × IsTimePlayed play history q history' more images × Written images

-- What it comes to where the play stops in it.
abbrev pub StopsInTime : PlayView → List Entry → (List ShownImage → Type 0) → Type 0
StopsInTime play history CutOff =
    (q : ℕ) → live history ≡ [] → length history ≡ entries_before play q → (images : List ShownImage) × IsShiftStopped play history q images × CutOff images

-- A play that ended in any way has begun these images.
pub record AreFrontImages (play : PlayView) (images : List (List ℕ)) : Type 0 where
  pub history : List Entry
  pub so_far : IsPlayedSoFar play history
  pub few : length images ≤ frame_count play.job
  pub are : AreImages play history images

-- The history is that before a time more, whatever times were played whole before.
abbrev pub BeginsTime : PlayView → ℕ → List Entry → List Entry → Type 0
BeginsTime play time history history' =
    (times : List (List Entry)) → length times ≡ time → All (IsTimeOf play) times → history ≡ history_of_times times → history' ≡ history_before times

-- What a time more comes to, whatever times were played before.
abbrev pub PlaysTimes : PlayView → ℕ → List Entry → List Entry → ℕ → List ℕ → (List ShownImage → Type 0) → Type 0
PlaysTimes play time history history' repeated orders Written =
    (times : List (List Entry)) (images : List ShownImage) → length times ≡ time → AreTimesPlayed play times history images
    → (next : List ShownImage) × IsTimeMore play times images history' repeated orders next × Written next

-- What it comes to where the play stops in it.
abbrev pub StopsInTimes : PlayView → ℕ → List Entry → (List ShownImage → Type 0) → Type 0
StopsInTimes play time history CutOff =
    (times : List (List Entry)) (images : List ShownImage) → length times ≡ time → AreTimesPlayed play times history images
    → (next : List ShownImage) × AreFrontImages play (shown_pieces (images ++ next)) × CutOff next

-- So many times were played whole, and this came of them. Their images were written.
abbrev pub HavePlayed : PlayView → ℕ → List Entry → Played → (List ShownImage → Type 0) → Type 0
HavePlayed play count history played Written =
    (times : List (List Entry)) × (length times ≡ count) × ((images : List ShownImage) × AreTimesPlayed play times history images × Written images)
    × (played.accepted ≡ map (λ time. read_orders (live time)) times) × (played.repeated ≡ count * repeated_count play)

-- How a play ends that came so far, with these totals.
abbrev pub EndsAs : PlayJob → List Bool → Result Played Stop → List Totals → PlayEnd → Type 0
EndsAs job good (Ok played) totals (Done report) =
    (report.accepted ≡ played.accepted) × (report.malformed ≡ length (filter (λ flag. not flag) good)) × (report.repeated ≡ played.repeated)
    × (report.frames ≡ frame_count job) × (report.totals ≡ totals)
EndsAs job good (Err stop.WriteFault) totals WriteFault = Unit {0}
EndsAs job good (Err stop.OutOfMemory) totals OutOfMemory = Unit {0}
EndsAs _ _ _ _ _ = ⊥
