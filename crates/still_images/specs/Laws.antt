-- Public: kept pictures, expanded by their places and boxes, are those of every instant.
use Rattle.std.specs.Prelude.{◌≡◌, ℕ, ◌+◌, ◌*◌, ◌-◌, ◌<◌, ◌≤◌, List, ◌∷◌, ◌++◌, Contains, length, slice_index}
use Rattle.ass_events.specs.ScriptEvents.{line_events}
use Rattle.ass_num.specs.declared.size.Size.{Size}
use Rattle.frame_change.specs.Changes.{IsInBox}
use Rattle.frame_change.specs.declared.pixels.Changed.{Changed}
use Rattle.frame_images.specs.FrameImages.{IsFormattedImage}
use Rattle.frame_rate.specs.Instants.{rated_instant}
use Rattle.frame_view.specs.FrameViews.{plain_frame}
use Rattle.still_images.specs.Boxes.{DiffersIn, HasPixels, IsLeastOf, cropped}
use Rattle.still_images.specs.Formats.{image_of_pixels}
use Rattle.still_images.specs.Stills.{ArePixelsAt, AreStills, Still, StillsView}

-- It is the last kept picture that isn't behind the place.
pub record IsLastBefore (stills : List Still) (place : ℕ) (still : Still) : Type 0 where
  pub before : List Still
  pub after : List Still
  pub split : stills ≡ before ++ still ∷ after
  pub begun : still.place ≤ place
  pub rest : (later : Still) → Contains after later → place < later.place

-- At each instant the picture is that of the last kept one that isn't behind it.
abbrev pub StillsShowAll : Type 0
StillsShowAll = (view : StillsView) (count : ℕ) (stills : List Still) → AreStills view count stills
    → (place : ℕ) → place < count → (still : Still) × IsLastBefore stills place still × ArePixelsAt view place still.pixels

-- Each pixel of a picture is the one of its part in the box, where it stands there, and else the one of the picture before.
abbrev pub IsLaidOver : ℕ → Size → Changed → List ℕ → List ℕ → List ℕ → Type 0
IsLaidOver depth size box part before now = (i j k : ℕ) → i < size.w → j < size.h → k < depth
    → (IsInBox box i j → slice_index now (depth * (j * size.w + i) + k) ≡ slice_index part (depth * ((j - box.y1) * (box.x2 - box.x1) + (i - box.x1)) + k))
    × ((IsInBox box i j → ⊥) → slice_index now (depth * (j * size.w + i) + k) ≡ slice_index before (depth * (j * size.w + i) + k))

-- The part in the least box of what differs from the picture before, laid over that, is the picture.
abbrev pub CropsLieOver : Type 0
CropsLieOver = (depth : ℕ) (size : Size) (box : Changed) (before now : List ℕ) → HasPixels depth size now → IsLeastOf size (DiffersIn depth size.w before now) box
    → IsLaidOver depth size box (cropped depth size.w box now) before now

-- The whole image of an instant's picture is the one of a `frame`.
abbrev pub StillsAreFrames : Type 0
StillsAreFrames = (view : StillsView) (place : ℕ) (pixels : List ℕ) → ArePixelsAt view place pixels
    → IsFormattedImage view.job.format view.script view.fonts (rated_instant view.job.instants place) (plain_frame view.job.size)
    (image_of_pixels view.job.format view.job.size pixels (rated_instant view.job.instants place) (length (line_events view.script)))
