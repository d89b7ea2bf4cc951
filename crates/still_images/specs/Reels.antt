-- Inner: what is shown and put from instant to instant.
use Rattle.std.specs.Prelude.{◌≡◌, ◌⊎◌, ℕ, ◌+◌, pos, List, [], ◌∷◌, ◌++◌, IfSome, Option, Some, None}
use Rattle.ass_events.specs.ScriptEvents.{line_events}
use Rattle.ass_io.specs.Sinks.{SinkState}
use Rattle.frame_change.specs.declared.pixels.Changed.{Changed}
use Rattle.frame_view.specs.FrameViews.{plain_frame}
use Rattle.picture_plan.specs.Pictures.{AreDraws}
use Rattle.run_words.specs.declared.job.StillsJob.{StillsJob}
use Rattle.still_images.specs.Boxes.{HasPixels, IsBoxOfPixels, whole_box}
use Rattle.still_images.specs.Formats.{ArePixelsOf, pixel_bytes}
use Rattle.still_images.specs.Puts.{GotPrefix, GotWhole}
use Rattle.still_images.specs.Stills.{AreFirstStills, AreStills, Still, StillsView, image_of_part, still_entries, still_images}
use Rattle.still_lists.specs.declared.entry.StillEntry.{StillEntry}
use Rattle.still_images.specs.declared.fault.StillsFault.{StillsFault}
use Rattle.still_images.specs.declared.reel.Reel.{Reel}
use Rattle.still_images.specs.declared.reel.Shown.{Shown}

-- The box of what a picture changes: the whole frame where nothing was shown before it.
abbrev pub IsPartAfter : StillsJob → Option Shown → List ℕ → Option Changed → Type 0
IsPartAfter job None pixels part = part ≡ Some (whole_box job.size)
IsPartAfter job (Some shown) pixels part = IsBoxOfPixels (pixel_bytes job.format) job.size shown.pixels.items pixels part

-- the images of a picture that changes this: one, or none
abbrev pub images_of_part : StillsJob → List ℕ → ℕ → ℕ → Option Changed → List (List ℕ)
images_of_part job pixels t n None = []
images_of_part job pixels t n (Some box) = image_of_part job box pixels t n ∷ []

-- what a list tells of it
abbrev pub entries_of_part : ℕ → ℕ → Option Changed → List StillEntry
entries_of_part place t None = []
entries_of_part place t (Some box) = record { place = place; t = t; part = box } ∷ []

-- A picture was shown from the instant t at a place on, when n events were known, and its image put, if it has one.
pub record IsPictureAdded (job : StillsJob) (n place t : ℕ) (shown : Shown) (old new : Reel) (before now : SinkState) : Type 0 where
  pub part : Option Changed
  pub is_part : IsPartAfter job old.shown shown.pixels.items part
  pub got : GotWhole (images_of_part job shown.pixels.items t n part) before now
  pub index : new.index ≡ old.index ++ entries_of_part place t part
  pub shown_is : new.shown ≡ Some shown

-- It wasn't shown whole.
pub record IsPictureCut (job : StillsJob) (n t : ℕ) (shown : Shown) (old : Reel) (fault : StillsFault) (before now : SinkState) : Type 0 where
  pub part : Option Changed
  pub is_part : IsPartAfter job old.shown shown.pixels.items part
  pub got : GotPrefix fault [] before now ⊎ GotPrefix fault (images_of_part job shown.pixels.items t n part) before now

-- What is shown last are the pixels of the last kept picture.
abbrev pub IsShownLast : StillsView → List Still → Option Shown → Type 0
IsShownLast view stills None = stills ≡ []
IsShownLast view stills (Some shown) =
    (before : List Still) × (last : Still) × (stills ≡ before ++ last ∷ []) × (last.pixels ≡ shown.pixels.items)
    × ArePixelsOf view.job.format view.fonts view.job.size shown.plan.draws shown.pixels.items

-- So far these pictures are kept, at the instants before this place.
pub record IsReel (view : StillsView) (place : ℕ) (stills : List Still) (reel : Reel) : Type 0 where
  pub are : AreStills view place stills
  pub index : reel.index ≡ still_entries view stills
  pub shown : IsShownLast view stills reel.shown

-- What is shown last has the pixels of a frame.
abbrev pub IsReelFit : StillsJob → Reel → Type 0
IsReelFit job reel = IfSome reel.shown (λ shown. HasPixels (pixel_bytes job.format) job.size shown.pixels.items)

-- The picture at the instant t: none, where its draws are those of the last one, else its draws and pixels.
abbrev pub IsNewlyDrawn : StillsView → ℕ → Option Shown → Option Shown → Type 0
IsNewlyDrawn view t last None =
    (shown : Shown) × (last ≡ Some shown) × AreDraws view.script view.fonts (line_events view.script) (pos t) (plain_frame view.job.size) shown.plan.draws
IsNewlyDrawn view t last (Some shown) =
    AreDraws view.script view.fonts (line_events view.script) (pos t) (plain_frame view.job.size) shown.plan.draws
    × ArePixelsOf view.job.format view.fonts view.job.size shown.plan.draws shown.pixels.items
    × HasPixels (pixel_bytes view.job.format) view.job.size shown.pixels.items

-- An instant more.
abbrev pub ShowsInstant : StillsView → ℕ → Reel → Reel → SinkState → SinkState → Type 0
ShowsInstant view place old new before now = (stills : List Still) → IsReel view place stills old
    → (next : List Still) × IsReel view (place + 1) (stills ++ next) new × GotWhole (still_images view next) before now

-- It ended before the instant was shown whole.
abbrev pub EndsInInstant : StillsView → ℕ → Reel → StillsFault → SinkState → SinkState → Type 0
EndsInInstant view place old fault before now = (stills : List Still) → IsReel view place stills old
    → (next : List Still) × AreFirstStills view (stills ++ next) × GotPrefix fault (still_images view next) before now
