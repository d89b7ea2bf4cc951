-- Public: what a play may show.
use Rattle.std.specs.Prelude.{◌≡◌, ℕ, ◌+◌, ◌*◌, ◌<◌, ◌≤◌, List, [], ◌∷◌, ◌++◌, length, take, All, slice_index_or}
use Rattle.std.specs.List.{flat_map}
use Rattle.ass_events.specs.Histories.{Entry}
use Rattle.play_shares.specs.Instants.{frame_count, instant_count}
use Rattle.run_words.specs.declared.job.Mode.TheVariants.{Settled}
use Rattle.play_model.specs.Images.{IsImageAt, IsSettledImage, IsShownImage, ShownImage}
use Rattle.play_model.specs.Plays.{IsFedTo, IsPlayable, IsTimeOf, PlayView, history_of_times}

-- ---- what was written so far

-- The images of the first so many places of all times: image k is that of place k mod the instants of time k / the instants.
abbrev pub AreImages : PlayView → List Entry → List (List ℕ) → Type 0
AreImages play history images =
    (q i : ℕ) (d : List ℕ) → i < instant_count play.job → q * instant_count play.job + i < length images
    → IsImageAt play history q i (slice_index_or images (q * instant_count play.job + i) d)

-- So are these, each with the number of its composed masks.
abbrev pub AreShownImages : PlayView → List Entry → List ShownImage → Type 0
AreShownImages play history images =
    (q i : ℕ) (d : ShownImage) → i < instant_count play.job → q * instant_count play.job + i < length images
    → IsShownImage play history q i (slice_index_or images (q * instant_count play.job + i) d)

-- Times that were played whole, fewer than all, and a part of the next: of each feeder's events those of its first batches, which may be none or all.
pub record IsPlayedSoFar (play : PlayView) (history : List Entry) : Type 0 where
  pub times : List (List Entry)
  pub few : length times < play.job.times
  pub each : All (IsTimeOf play) times
  pub rounds : ℕ
  pub last : List Entry
  pub fed : IsFedTo play rounds last
  pub value : history ≡ history_of_times (times ++ last ∷ [])

-- What a play has written before it ended in any way: whole images in their order, and perhaps a prefix of the next.
pub record IsFrontOfPlay (play : PlayView) (bytes : List ℕ) : Type 0 where
  pub history : List Entry
  pub so_far : IsPlayedSoFar play history
  pub images : List (List ℕ)
  pub few : length images ≤ frame_count play.job
  pub are : AreImages play history images
  pub cut : ℕ
  pub value : bytes ≡ take cut (flat_map (λ image. image) images)

-- ---- a whole play

-- One history for each time, an interleaving of the feeders' events, each once; and one image for each instant of each time, in their order.
pub record IsShownPlay (play : PlayView) (times : List (List Entry)) (bytes : List ℕ) : Type 0 where
  pub as_many : length times ≡ play.job.times
  pub each : All (IsTimeOf play) times
  pub images : List (List ℕ)
  pub all : length images ≡ frame_count play.job
  pub are : AreImages play (history_of_times times) images
  pub value : bytes ≡ flat_map (λ image. image) images

-- ---- settled

-- Each image of a settled play is that of all events of the script: no number of feeders, renderers, lines of a batch, lines offered again, instants warmed ahead, bands or bytes of a budget changes a byte.
abbrev pub SettledPlaysAreFixed : Type 0
SettledPlaysAreFixed =
    (play : PlayView) (times : List (List Entry)) (bytes : List ℕ) → IsPlayable play → play.job.mode ≡ Settled → (shown : IsShownPlay play times bytes)
    → (q i : ℕ) (d : List ℕ) → i < instant_count play.job → q < play.job.times → IsSettledImage play q i (slice_index_or shown.images (q * instant_count play.job + i) d)
