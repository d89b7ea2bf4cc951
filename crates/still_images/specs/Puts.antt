-- Public: what the frames sink gets of a play of only what changes, and its index.
use Rattle.std.specs.Prelude.{◌≡◌, ℕ, ◌≤◌, List, ◌++◌, Result, Ok, Err, string_bytes}
use Rattle.std.specs.Io.KnownBytes.{Appends}
use Rattle.std.specs.List.{flat_map}
use Rattle.std.specs.Global.{Global}
use Rattle.std.specs.declared.string.String.{String}
use Rattle.ass_io.specs.Sinks.{SinkState}
use Rattle.ass_io.specs.Written.{AppendsFront}
use Rattle.ass_num.specs.Causes.{Rose}
use Rattle.still_images.specs.Stills.{AreFirstStills, AreStills, Still, StillsView, index_text, still_entries, still_images}
use Rattle.still_lists.specs.declared.entry.StillEntry.{StillEntry}
use Rattle.still_images.specs.declared.fault.StillsFault.{StillsFault}
use Rattle.still_images.specs.declared.fault.StillsFault.TheVariants.{WriteFault, OutOfMemory}

-- The sink was asked to put these pieces, one after another, and got them whole.
pub record GotWhole (pieces : List (List ℕ)) (old new : SinkState) : Type 0 where
  pub held : Appends old.held new.held (flat_map (λ piece. piece) pieces)
  pub faults : new.faults ≡ old.faults
  pub asked : new.asked ≡ old.asked ++ pieces

-- The count of faults rose where the sink failed, and is as it was where memory ran out.
abbrev pub IsFaultCounted : StillsFault → ℕ → ℕ → Type 0
IsFaultCounted WriteFault before now = Rose before now × (before ≤ now)
IsFaultCounted OutOfMemory before now = now ≡ before

-- It was asked to put these pieces, and got a prefix of their bytes.
pub record GotPrefix (fault : StillsFault) (pieces : List (List ℕ)) (old new : SinkState) : Type 0 where
  pub held : AppendsFront old.held new.held (flat_map (λ piece. piece) pieces)
  pub counted : IsFaultCounted fault old.faults new.faults
  pub asked : new.asked ≡ old.asked ++ pieces

-- All images were put, and these are what a list tells of them.
pub record IsListedWhole (view : StillsView) (entries : List StillEntry) (old new : SinkState) : Type 0 where
  pub stills : List Still
  pub are : AreStills view view.job.instants.count stills
  pub got : GotWhole (still_images view stills) old new
  pub value : entries ≡ still_entries view stills

-- All images were put, and this is their index.
pub record IsShownWhole (view : StillsView) (text : List ℕ) (old new : SinkState) : Type 0 where
  pub stills : List Still
  pub are : AreStills view view.job.instants.count stills
  pub got : GotWhole (still_images view stills) old new
  pub value : text ≡ index_text view stills

-- The first images were put, the last of them maybe not whole.
pub record IsShownInPart (view : StillsView) (fault : StillsFault) (old new : SinkState) : Type 0 where
  pub stills : List Still
  pub are : AreFirstStills view stills
  pub got : GotPrefix fault (still_images view stills) old new

-- What came of it, as a list.
abbrev pub AreStillsListed : StillsView → Result (List StillEntry) StillsFault → SinkState → SinkState → Type 0
AreStillsListed view (Ok entries) old new = IsListedWhole view entries old new
AreStillsListed view (Err fault) old new = IsShownInPart view fault old new

-- What came of it, with their index.
abbrev pub AreStillsShown : StillsView → Result (String Global) StillsFault → SinkState → SinkState → Type 0
AreStillsShown view (Ok text) old new = IsShownWhole view (string_bytes text) old new
AreStillsShown view (Err fault) old new = IsShownInPart view fault old new
