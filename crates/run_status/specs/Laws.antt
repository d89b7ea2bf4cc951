-- Public: what the files decide.
use Rattle.std.specs.Prelude.{◌≡◌, ◌≢◌, ℕ, ◌<◌, List, length, slice_index_or, None, Result, Ok, Err}
use Rattle.ass_io.specs.Fetched.{Told}
use Rattle.run_status.specs.declared.status.Status.{Status}
use Rattle.run_status.specs.declared.status.Status.TheVariants.{ReadFault, OutOfMemory}
use Rattle.run_status.specs.declared.inputs.Inputs.{Inputs}
use Rattle.run_status.specs.Inputs.{AreRead}
use Rattle.run_words.specs.declared.job.ScriptSource.{ScriptSource}

-- The shelf tells what the names hold.
abbrev pub AreTold : (List ℕ → Told) → ScriptSource → List (List ℕ) → Type 0
AreTold told script fonts = (told script.name ≢ None) × ((index : ℕ) (none : List ℕ) → index < length fonts → told (slice_index_or fonts index none) ≢ None)

-- The status is neither a fault nor out of memory.
abbrev pub IsCause : Status → Type 0
IsCause (ReadFault _) = ⊥
IsCause OutOfMemory = ⊥
IsCause _ = Unit {0}

-- The answer is neither a fault nor out of memory.
abbrev pub IsReadDecided : {Value : Type 0} → Result Value Status → Type 0
IsReadDecided (Ok _) = Unit {0}
IsReadDecided (Err status) = IsCause status

-- Where it is told what the names hold, there is an answer that is neither a fault nor out of memory.
abbrev pub FilesHaveAnAnswer : Type 0
FilesHaveAnAnswer =
    (told : List ℕ → Told) (script : ScriptSource) (fonts : List (List ℕ)) → AreTold told script fonts →
    (answer : Result Inputs Status) × IsReadDecided answer × AreRead told script fonts answer

-- Two answers that are neither faults nor out of memory are the same there.
abbrev pub FilesDecide : Type 0
FilesDecide =
    (told : List ℕ → Told) (script : ScriptSource) (fonts : List (List ℕ)) (one other : Result Inputs Status) →
    AreTold told script fonts → IsReadDecided one → IsReadDecided other → AreRead told script fonts one → AreRead told script fonts other → one ≡ other
