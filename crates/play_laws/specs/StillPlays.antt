-- Public: a play of only what changes, expanded by its index, has the images of the play without it (docs/PICTURES.md).
use Rattle.std.specs.Prelude.{◌≡◌, ℕ, ◌+◌, ◌*◌, ◌<◌, List, [], ◌∷◌, ◌++◌, length, slice_index_or, Ok}
use Rattle.std.specs.Io.KnownBytes.{Appends}
use Rattle.std.specs.List.{flat_map}
use Rattle.ass_events.specs.ScriptEvents.{line_events}
use Rattle.ass_io.specs.Fetched.{Told}
use Rattle.ass_io.specs.Fetches.{FetchChange}
use Rattle.frame_rate.specs.Instants.{rated_instant}
use Rattle.play_command.specs.PlayRuns.{IsPlayRun}
use Rattle.run_status.specs.Inputs.{AreRead}
use Rattle.run_status.specs.Laws.{AreTold}
use Rattle.run_status.specs.declared.inputs.Inputs.{Inputs}
use Rattle.run_status.specs.declared.status.Status.TheVariants.{Done}
use Rattle.run_words.specs.declared.job.Mode.TheVariants.{Settled}
use Rattle.run_words.specs.declared.job.PlayFormat.TheVariants.{Image}
use Rattle.run_words.specs.declared.job.PlayJob.{PlayJob}
use Rattle.run_words.specs.declared.job.StillsJob.{StillsJob}
use Rattle.single_run.specs.Outputs.{kept_view}
use Rattle.single_run.specs.Runs.{IsJobRun, SinkChange}
use Rattle.single_run.specs.declared.work.Task.TheVariants.{Stills}
use Rattle.single_run.specs.declared.work.Work.{Work}
use Rattle.still_images.specs.Boxes.{cropped}
use Rattle.still_images.specs.Formats.{image_of_pixels, pixel_bytes}
use Rattle.still_images.specs.Laws.{IsLaidOver, IsLastBefore}
use Rattle.still_images.specs.Stills.{AreStills, Still, StillsView, index_text, still_images}

-- The jobs are of the same instants and of the same size, and each image of the play is by itself, in the format of the other. All else may differ.
pub record StillsAlike (stills : StillsJob) (play : PlayJob) : Type 0 where
  pub instants : stills.instants ≡ play.instants
  pub size : stills.size ≡ play.size
  pub format : play.format ≡ Image stills.format

-- A sink was asked to put these pieces, one after another, and got them whole.
pub record HasPut (pieces : List (List ℕ)) (sink : SinkChange) : Type 0 where
  pub held : Appends sink.before.held sink.now.held (flat_map (λ piece. piece) pieces)
  pub asked : sink.now.asked ≡ sink.before.asked ++ pieces

-- ---- expanded by the index

-- The part of a kept picture in its box, laid over what was shown, is the picture.
abbrev pub IsMadeByPart : StillsView → List ℕ → Still → Type 0
IsMadeByPart view shown still =
    IsLaidOver (pixel_bytes view.job.format) view.job.size still.box (cropped (pixel_bytes view.job.format) view.job.size.w still.box still.pixels) shown still.pixels

-- So it is with all of them: the first part is laid over nothing, and each other over the picture before it.
pub data AreMadeByParts (view : StillsView) : List Still → Type 0 where
  NoParts : AreMadeByParts view []
  FirstPart : (first : Still) → IsMadeByPart view [] first → AreMadeByParts view (first ∷ [])
  NextPart : (before : List Still) (last next : Still) → AreMadeByParts view (before ++ last ∷ []) → IsMadeByPart view last.pixels next → AreMadeByParts view ((before ++ last ∷ []) ++ next ∷ [])

-- the image of pixels at place i in time q of a play; its comment, if it has one, counts the script's events of the times so far, and a flush between each two
abbrev pub image_in_time : StillsView → ℕ → ℕ → List ℕ → List ℕ
image_in_time view q i pixels =
    image_of_pixels view.job.format view.job.size pixels (rated_instant view.job.instants i) (q * (length (line_events view.script) + 1) + length (line_events view.script))

-- The images of so many times of all instants: at each place that of the last kept picture that isn't behind the place.
pub record AreExpanded (view : StillsView) (kept : List Still) (times : ℕ) (images : List (List ℕ)) : Type 0 where
  pub all : length images ≡ times * view.job.instants.count
  pub each : (q i : ℕ) (d : List ℕ) → q < times → i < view.job.instants.count
      → (still : Still) × IsLastBefore kept i still × (slice_index_or images (q * view.job.instants.count + i) d ≡ image_in_time view q i still.pixels)

-- ---- the runs

-- One run has put the images of kept pictures and their index, and another the images to which these are expanded.
pub record IsExpandedTo (view : StillsView) (times : ℕ) (frames report more : SinkChange) : Type 0 where
  pub kept : List Still
  pub are : AreStills view view.job.instants.count kept
  pub put : HasPut (still_images view kept) frames
  pub told : HasPut (index_text view kept ∷ []) report
  pub parts : AreMadeByParts view kept
  pub images : List (List ℕ)
  pub expanded : AreExpanded view kept times images
  pub played : HasPut images more

-- So do a run of a play of only what changes and a run of a settled play over the same files, of which it is told what they hold, by such jobs, where both are done.
abbrev pub StillsShowThePlay : Type 0
StillsShowThePlay =
    (told : List ℕ → Told) (log other_log : FetchChange) (work : Work) (stills : StillsJob) (play : PlayJob) (frames report more said : SinkChange)
    → AreTold told work.script work.fonts → work.task ≡ Stills stills → StillsAlike stills play → play.mode ≡ Settled
    → IsJobRun told log work frames report Done → IsPlayRun told other_log play work.script work.fonts more said Done
    → (inputs : Inputs) × AreRead told work.script work.fonts (Ok inputs) × IsExpandedTo (kept_view stills inputs) play.times frames report more
