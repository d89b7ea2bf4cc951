-- Public: what a play of only what changes puts to the frames sink at each status, and its index.
use Rattle.std.specs.Prelude.{◌≡◌, ℕ, List, Option, Result, Ok, Err}
use Rattle.std.specs.Io.KnownBytes.{Appends}
use Rattle.std.specs.List.{flat_map}
use Rattle.std.specs.Global.{Global}
use Rattle.std.specs.declared.string.String.{String}
use Rattle.ass_io.specs.Written.{AppendsFront}
use Rattle.run_status.specs.declared.status.Status.{Status}
use Rattle.run_status.specs.declared.status.Status.TheVariants.{Done, OutOfMemory, WriteFault}
use Rattle.run_status.specs.declared.status.Which.TheVariants.{Frames, Report}
use Rattle.still_images.specs.Stills.{AreFirstStills, AreStills, Still, StillsView, index_text, still_images}
use Rattle.still_images.specs.declared.fault.StillsFault.{StillsFault}
use Rattle.still_images.specs.declared.fault.StillsFault.TheVariants as fault
use Rattle.single_run.specs.declared.outcome.Outcome.{Outcome}
use Rattle.single_run.specs.declared.outcome.Outcome.TheVariants.{Ended, Found}

-- the bytes of the images
abbrev pub images_bytes : StillsView → List Still → List ℕ
images_bytes view kept = flat_map (λ image. image) (still_images view kept)

-- At a status all was put, also where the report failed, or a part.
abbrev pub WholeOrPart : Status → Type 0 → Type 0 → Type 0
WholeOrPart Done whole part = whole
WholeOrPart (WriteFault Report) whole part = whole
WholeOrPart (WriteFault Frames) whole part = part
WholeOrPart OutOfMemory whole part = part
WholeOrPart _ whole part = ⊥

-- These pictures are kept: those of all instants, or of the first.
abbrev pub AreStillsKept : StillsView → Status → List Still → Type 0
AreStillsKept view status kept = WholeOrPart status (AreStills view view.job.instants.count kept) (AreFirstStills view kept)

-- What the frames sink got: their images, or a prefix of them.
abbrev pub AreImagesHeld : StillsView → Status → List Still → Option (List ℕ) → Option (List ℕ) → Type 0
AreImagesHeld view status kept old new = WholeOrPart status (Appends old new (images_bytes view kept)) (AppendsFront old new (images_bytes view kept))

-- The text is the index of them, where they are those of all instants.
abbrev pub IsIndexOf : StillsView → List Still → List ℕ → Type 0
IsIndexOf view kept text = AreStills view view.job.instants.count kept × (text ≡ index_text view kept)

-- It has found an index where it was done whole, and hasn't failed at the report.
abbrev pub SuitsStills : Outcome → Type 0
SuitsStills (Ended Done) = ⊥
SuitsStills (Ended (WriteFault Report)) = ⊥
SuitsStills _ = Unit {0}

-- how what came of the images is told
abbrev pub IsToldAs : Result (String Global) StillsFault → Outcome → Type 0
IsToldAs (Ok text) outcome = outcome ≡ Found text
IsToldAs (Err fault.WriteFault) outcome = outcome ≡ Ended (WriteFault Frames)
IsToldAs (Err fault.OutOfMemory) outcome = outcome ≡ Ended OutOfMemory
