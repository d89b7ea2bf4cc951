-- Public: what a play has written before it ended is a prefix of the images of whole times.
use Rattle.std.specs.Prelude.{◌≡◌, ℕ, ◌≤◌, ℤ, List, ◌++◌, length, take, All}
use Rattle.std.specs.List.{flat_map}
use Rattle.ass_events.specs.Histories.{Entry, live}
use Rattle.blend.specs.Canvases.{CanvasValue}
use Rattle.frame_view.specs.FrameViews.{plain_frame}
use Rattle.picture_plan.specs.Pictures.{IsPictureAt}
use Rattle.play_laws.specs.Agreement.{PlayAlike}
use Rattle.play_model.specs.Outputs.{AreImages, IsFrontOfPlay, IsShownPlay}
use Rattle.play_model.specs.Plays.{IsPlayable, IsTimeOf, PlayView, history_of_times}
use Rattle.play_shares.specs.Instants.{frame_count}
use Rattle.run_words.specs.declared.job.Mode.TheVariants.{Settled}

-- The bytes are a prefix of the first images of whole times, of which there are as many as the play has.
pub record IsFrontOfTimes (play : PlayView) (bytes : List ℕ) : Type 0 where
  pub times : List (List Entry)
  pub as_many : length times ≡ play.job.times
  pub each : All (IsTimeOf play) times
  pub images : List (List ℕ)
  pub few : length images ≤ frame_count play.job
  pub are : AreImages play (history_of_times times) images
  pub cut : ℕ
  pub value : bytes ≡ take cut (flat_map (λ image. image) images)

-- The history of a play that ended goes on to whole times, and what was written stays what they show.
abbrev pub FrontsGoOn : Type 0
FrontsGoOn = (play : PlayView) (bytes : List ℕ) → IsFrontOfPlay play bytes → IsFrontOfTimes play bytes

-- Each front of whole times has a picture at each instant.
abbrev pub HavePictures : PlayView → Type 0
HavePictures play =
    (times : List (List Entry)) (n : ℕ) (t : ℤ) → All (IsTimeOf play) times
    → (canvas : CanvasValue) × IsPictureAt play.script play.fonts (live (take n (history_of_times times))) t (plain_frame play.job.size) canvas

-- So it has in each play.
abbrev pub PlaysHavePictures : Type 0
PlaysHavePictures = (play : PlayView) → IsPlayable play → HavePictures play

-- So what was written is a prefix of the bytes of a whole play.
abbrev pub FrontsAreOfPlays : Type 0
FrontsAreOfPlays =
    (play : PlayView) (bytes : List ℕ) → IsPlayable play → IsFrontOfPlay play bytes
    → (times : List (List Entry)) × (more : List ℕ) × IsShownPlay play times (bytes ++ more)

-- What a settled play has written before it ended is a prefix of what each whole one puts that is alike.
abbrev pub SettledFrontsAgree : Type 0
SettledFrontsAgree =
    (one other : PlayView) (times : List (List Entry)) (front bytes : List ℕ) → IsPlayable one → IsPlayable other → PlayAlike one other
    → one.job.mode ≡ Settled → other.job.mode ≡ Settled → IsFrontOfPlay one front → IsShownPlay other times bytes
    → (rest : List ℕ) × (bytes ≡ front ++ rest)
