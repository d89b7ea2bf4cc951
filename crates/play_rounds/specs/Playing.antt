-- Inner: what was played of a shift.
use Rattle.std.specs.Prelude.{◌≡◌, ℕ, ◌+◌, ◌<◌, ◌≤◌, List, [], ◌++◌, length, min, slice_index_or}
use Rattle.ass_events.specs.Histories.{Entry, live}
use Rattle.play_shares.specs.Instants.{instant_count}
use Rattle.play_shares.specs.Renderers.{first_place}
use Rattle.run_words.specs.declared.job.PlayJob.{PlayJob}
use Rattle.play_model.specs.Images.{IsShownImage, ShownImage, entries_before}
use Rattle.play_model.specs.Plays.{IsFedTo, PlayView, all_feeding, repeated_before}
use Rattle.play_workers.specs.declared.worker.Role.{Role}
use Rattle.play_rounds.specs.Shifts.{IsShiftOf, crew_of}
use Rattle.play_rounds.specs.declared.shift.Shift.{Shift}
use Rattle.play_rounds.specs.declared.shift.Shift.TheVariants.{Both, Feed, Paint}

-- how many rounds have fed before a round of a shift, where so many rounds feed all lines
abbrev pub fed_before : Shift → ℕ → ℕ → ℕ
fed_before Both all round = round
fed_before Feed all round = round
fed_before Paint all round = all

-- how many images are made before it
abbrev pub images_before : Shift → PlayJob → ℕ → ℕ
images_before Both job round = min (first_place job round) (instant_count job)
images_before Feed job round = 0
images_before Paint job round = min (first_place job round) (instant_count job)

-- how many events are offered once more before it
abbrev pub repeats_before : PlayView → Shift → ℕ → ℕ
repeats_before play Both round = repeated_before play round
repeats_before play Feed round = repeated_before play round
repeats_before play Paint round = 0

-- These are the images of the first so many places of time q.
pub record AreFirstImages (play : PlayView) (history : List Entry) (q count : ℕ) (images : List ShownImage) : Type 0 where
  pub many : length images ≡ count
  pub each : (i : ℕ) (d : ShownImage) → i < count → IsShownImage play history q i (slice_index_or images i d)

-- So many rounds of a shift of time q were played, behind a history of which nothing is live.
pub record IsShiftPlayed (play : PlayView) (old : List Entry) (q : ℕ) (shift : Shift) (rounds : ℕ) (history : List Entry) (repeated : ℕ) (images : List ShownImage) : Type 0 where
  pub mode : IsShiftOf play.job.mode shift
  pub behind : length old ≡ entries_before play q
  pub dead : live old ≡ []
  pub fresh : List Entry
  pub is : history ≡ old ++ fresh
  pub fed : IsFedTo play (fed_before shift (all_feeding play) rounds) fresh
  pub repeated_are : repeated ≡ repeats_before play shift rounds
  pub images_are : AreFirstImages play history q (images_before shift play.job rounds) images

-- A shift ended early: so many rounds were fed whole, and these are the first images of time q, all of that history.
pub record IsShiftStopped (play : PlayView) (old : List Entry) (q : ℕ) (images : List ShownImage) : Type 0 where
  pub rounds : ℕ
  pub fresh : List Entry
  pub fed : IsFedTo play rounds fresh
  pub few : length images ≤ instant_count play.job
  pub are : AreFirstImages play (old ++ fresh) q (length images) images

-- What rounds of a shift come to, of whatever shift the crew is, and whatever was played before: so many events more were repeated, and images were written.
abbrev pub PlaysOn : PlayView → List Role → ℕ → ℕ → List Entry → List Entry → ℕ → (List ShownImage → Type 0) → Type 0
PlaysOn play roles round rounds history history' more Written =
    (old : List Entry) (q : ℕ) (shift : Shift) (repeated : ℕ) (images : List ShownImage) → roles ≡ crew_of play.job shift → IsShiftPlayed play old q shift round history repeated images
    → (next : List ShownImage) × IsShiftPlayed play old q shift rounds history' (repeated + more) (images ++ next) × Written next

-- What they come to where the play stops in them, after these images were begun.
abbrev pub StopsIn : PlayView → List Role → ℕ → List Entry → (List ShownImage → Type 0) → Type 0
StopsIn play roles round history CutOff =
    (old : List Entry) (q : ℕ) (shift : Shift) (repeated : ℕ) (images : List ShownImage) → roles ≡ crew_of play.job shift → IsShiftPlayed play old q shift round history repeated images
    → (next : List ShownImage) × IsShiftStopped play old q (images ++ next) × CutOff next
