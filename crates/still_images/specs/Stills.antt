-- Public: the pictures of a script that are kept where only what changes is: the first one, and each that differs from the one before it (docs/PICTURES.md).
use Rattle.std.specs.Prelude.{ℕ, ◌+◌, ◌≤◌, pos, min, if◌then◌else◌, List, [], ◌∷◌, ◌++◌, length, map}
use Rattle.ass_events.specs.ScriptEvents.{line_events}
use Rattle.ass_script.specs.Scripts.{ScriptValue}
use Rattle.bdf_font.specs.Fonts.{FontValue}
use Rattle.frame_change.specs.declared.pixels.Changed.{Changed}
use Rattle.ass_num.specs.Limits.{max_instant}
use Rattle.frame_rate.specs.Instants.{rated_instant}
use Rattle.frame_rate.specs.declared.instants.Instants.{Instants}
use Rattle.frame_view.specs.FrameViews.{plain_frame}
use Rattle.mask_keys.specs.declared.plans.Draw.{Draw}
use Rattle.picture_plan.specs.Pictures.{AreDraws}
use Rattle.run_words.specs.declared.job.StillsJob.{StillsJob}
use Rattle.still_images.specs.Boxes.{DiffersIn, IsLeastOf, box_size, cropped, whole_box}
use Rattle.still_images.specs.Formats.{ArePixelsOf, image_of_pixels, pixel_bytes}
use Rattle.still_lists.specs.TextIndexes.{words_index}
use Rattle.still_lists.specs.declared.entry.StillEntry.{StillEntry}

-- a job with what was read for it
pub record StillsView : Type 0 where
  pub job : StillsJob
  pub script : ScriptValue
  pub fonts : List FontValue

abbrev pub stills_view : StillsJob → ScriptValue → List FontValue → StillsView
stills_view job script fonts = record { job = job; script = script; fonts = fonts }

-- These are the draws of the picture that the script's events show at the instant at a place.
abbrev pub AreDrawsAt : StillsView → ℕ → List Draw → Type 0
AreDrawsAt view place draws = AreDraws view.script view.fonts (line_events view.script) (pos (rated_instant view.job.instants place)) (plain_frame view.job.size) draws

-- These are the pixels of that picture, in the job's format.
pub record ArePixelsAt (view : StillsView) (place : ℕ) (pixels : List ℕ) : Type 0 where
  pub draws : List Draw
  pub are_draws : AreDrawsAt view place draws
  pub are_pixels : ArePixelsOf view.job.format view.fonts view.job.size draws pixels

-- A picture that is kept: the place of the first instant that shows it, the box of what changed, and its pixels.
pub record Still : Type 0 where
  pub place : ℕ
  pub box : Changed
  pub pixels : List ℕ

abbrev pub still_of : ℕ → Changed → List ℕ → Still
still_of place box pixels = record { place = place; box = box; pixels = pixels }

-- What is kept of the first instants: the first picture, whose box is the whole frame, and each that differs from the one before it, with the least box of the pixels that do.
pub data AreStills (view : StillsView) : ℕ → List Still → Type 0 where
  NoStill : AreStills view 0 []
  FirstStill : (pixels : List ℕ) → ArePixelsAt view 0 pixels → AreStills view 1 (still_of 0 (whole_box view.job.size) pixels ∷ [])
  SameStill : (place : ℕ) (before : List Still) (last : Still) → AreStills view place (before ++ last ∷ []) → ArePixelsAt view place last.pixels
      → AreStills view (place + 1) (before ++ last ∷ [])
  NextStill : (place : ℕ) (before : List Still) (last : Still) (box : Changed) (pixels : List ℕ) → AreStills view place (before ++ last ∷ [])
      → ArePixelsAt view place pixels → IsLeastOf view.job.size (DiffersIn (pixel_bytes view.job.format) view.job.size.w last.pixels pixels) box
      → AreStills view (place + 1) ((before ++ last ∷ []) ++ still_of place box pixels ∷ [])

-- They are those of the first instants, maybe of all.
abbrev pub AreFirstStills : StillsView → List Still → Type 0
AreFirstStills view stills = (place : ℕ) × (place ≤ view.job.instants.count) × AreStills view place stills

-- the image of a picture at t, when n events were known: all of it, or the part in a box
abbrev pub image_of_part : StillsJob → Changed → List ℕ → ℕ → ℕ → List ℕ
image_of_part job part pixels t n =
    if job.crop then image_of_pixels job.format (box_size part) (cropped (pixel_bytes job.format) job.size.w part pixels) t n
    else image_of_pixels job.format job.size pixels t n

abbrev pub still_image : StillsView → Still → List ℕ
still_image view still =
    image_of_part view.job still.box still.pixels (rated_instant view.job.instants still.place) (length (line_events view.script))

-- the images of kept pictures, in order
abbrev pub still_images : StillsView → List Still → List (List ℕ)
still_images view stills = map (still_image view) stills

-- what a list tells of a kept picture
abbrev pub still_entry : StillsView → Still → StillEntry
still_entry view still = record { place = still.place; t = rated_instant view.job.instants still.place; part = still.box }

-- what it tells of all, in order
abbrev pub still_entries : StillsView → List Still → List StillEntry
still_entries view stills = map (still_entry view) stills

-- the end of the last instant: the next one, or the last that there is where that doesn't come before it
abbrev pub end_instant : Instants → ℕ
end_instant instants = min (rated_instant instants instants.count) max_instant

-- the index of kept pictures
abbrev pub index_text : StillsView → List Still → List ℕ
index_text view stills = words_index (still_entries view stills) view.job.instants.count (end_instant view.job.instants)
