-- Public: what each status says of the counts of faults and of what the sinks got.
use Rattle.std.specs.Prelude.{◌≡◌, ◌⊎◌, ℕ, ◌≤◌, List, [], ◌∷◌, ◌++◌, Option, string_bytes}
use Rattle.std.specs.Io.KnownBytes.{Appends, Keeps}
use Rattle.ass_num.specs.Causes.{Rose}
use Rattle.ass_io.specs.Written.{AppendsFront}
use Rattle.run_status.specs.Statuses.{status_line}
use Rattle.run_status.specs.declared.status.Status.{Status}
use Rattle.run_status.specs.declared.status.Status.TheVariants.{Done, ReadFault, WriteFault, OutOfMemory}
use Rattle.run_status.specs.declared.status.Which.{Which}
use Rattle.run_status.specs.declared.status.Which.TheVariants.{Frames, Report}
use Rattle.single_run.specs.declared.outcome.Outcome.{Outcome}
use Rattle.single_run.specs.declared.outcome.Outcome.TheVariants.{Ended, Found}

-- The answer is this one, or out of memory came in its place.
abbrev pub IsOrMemory : Status → Status → Type 0
IsOrMemory wanted answer = (answer ≡ wanted) ⊎ (answer ≡ OutOfMemory)

-- The answer of a task for a sink is this one; out of memory may come in its place, and a fault of that sink in the place of `Done`.
abbrev pub IsOrFault : Which → Status → Status → Type 0
IsOrFault sink wanted answer = IsOrMemory wanted answer ⊎ ((wanted ≡ Done) × (answer ≡ WriteFault sink))

-- The shelf's count rose at a fault of reading. At out of memory it may have risen, and at any other status it is as it was.
abbrev pub IsStatusReadCounted : Status → ℕ → ℕ → Type 0
IsStatusReadCounted (ReadFault _) before now = Rose before now × (before ≤ now)
IsStatusReadCounted OutOfMemory before now = before ≤ now
IsStatusReadCounted _ before now = now ≡ before

-- The frames sink's count rose where it failed. At out of memory it may have risen, and at any other status it is as it was.
abbrev pub IsWriteCounted : Status → ℕ → ℕ → Type 0
IsWriteCounted (WriteFault Frames) before now = Rose before now × (before ≤ now)
IsWriteCounted OutOfMemory before now = before ≤ now
IsWriteCounted _ before now = now ≡ before

-- What the frames sink got of bytes that it may get: all of them, a front, or nothing.
abbrev pub IsShown : Status → Option (List ℕ) → Option (List ℕ) → (List ℕ → Type 0) → Type 0
IsShown Done old new may = (bytes : List ℕ) × may bytes × Appends old new bytes
IsShown (WriteFault Frames) old new may = (bytes : List ℕ) × may bytes × AppendsFront old new bytes
IsShown OutOfMemory old new may = Keeps old new ⊎ ((bytes : List ℕ) × may bytes × AppendsFront old new bytes)
IsShown _ old new may = Keeps old new

-- A sink was asked to put one piece more, which is one that it may get.
abbrev pub IsOnePiece : (List ℕ → Type 0) → List (List ℕ) → List (List ℕ) → Type 0
IsOnePiece may old new = (piece : List ℕ) × may piece × (new ≡ old ++ piece ∷ [])

-- The pieces that the frames sink was asked to put by a task that was done whole: one where the task is for it, and else none.
abbrev pub AreAllShown : Which → (List ℕ → Type 0) → List (List ℕ) → List (List ℕ) → Type 0
AreAllShown Frames may old new = IsOnePiece may old new
AreAllShown Report may old new = new ≡ old

-- Those of a task for which memory ran out.
abbrev pub AreSomeShown : Which → (List ℕ → Type 0) → List (List ℕ) → List (List ℕ) → Type 0
AreSomeShown Frames may old new = (new ≡ old) ⊎ IsOnePiece may old new
AreSomeShown Report may old new = new ≡ old

-- The pieces that it was asked to put at each status by a task for a sink: none at a refusal.
abbrev pub ArePiecesShown : Which → Status → (List ℕ → Type 0) → List (List ℕ) → List (List ℕ) → Type 0
ArePiecesShown sink Done may old new = AreAllShown sink may old new
ArePiecesShown sink (WriteFault Frames) may old new = IsOnePiece may old new
ArePiecesShown sink OutOfMemory may old new = AreSomeShown sink may old new
ArePiecesShown sink _ may old new = new ≡ old

-- The report got the line of the status, or a prefix of it where its count rose.
abbrev pub IsLineReported : Status → Option (List ℕ) → Option (List ℕ) → ℕ → ℕ → Type 0
IsLineReported status old new before now =
    (Appends old new (status_line status) × (now ≡ before)) ⊎ (AppendsFront old new (status_line status) × Rose before now)

-- Where memory ran out, the report got the line of that, or a prefix of it where its count rose, or nothing where that put wanted memory too.
abbrev pub IsMemoryReported : Option (List ℕ) → Option (List ℕ) → ℕ → ℕ → Type 0
IsMemoryReported old new before now =
    (Appends old new (status_line OutOfMemory) × (now ≡ before)) ⊎ (AppendsFront old new (status_line OutOfMemory) × Rose before now × (before ≤ now))
    ⊎ (Keeps old new × (now ≡ before))

-- What the report got: of a job that was done whole a text that it may get, of a fault of the report a prefix of that, and of any other status its line.
abbrev pub IsReported : Status → Option (List ℕ) → Option (List ℕ) → ℕ → ℕ → (List ℕ → Type 0) → Type 0
IsReported Done old new before now may = (text : List ℕ) × may text × Appends old new text × (now ≡ before)
IsReported (WriteFault Report) old new before now may = (text : List ℕ) × may text × AppendsFront old new text × Rose before now × (before ≤ now)
IsReported OutOfMemory old new before now may = IsMemoryReported old new before now
IsReported status old new before now may = IsLineReported status old new before now

abbrev pub memory_line : List ℕ
memory_line = status_line OutOfMemory

-- A piece that the report may be asked to put: a text that it may get, or the line of a status.
abbrev pub IsTextOrLine : (List ℕ → Type 0) → List ℕ → Type 0
IsTextOrLine may piece = may piece ⊎ ((status : Status) × (piece ≡ status_line status))

-- The pieces that the report was asked to put by a task that was done whole: one where the task is for it, and else none.
abbrev pub AreAllTold : Which → (List ℕ → Type 0) → List (List ℕ) → List (List ℕ) → Type 0
AreAllTold Frames may old new = new ≡ old
AreAllTold Report may old new = IsOnePiece may old new

-- Those where memory ran out: the line of that is the last one. It may come behind a piece whose put wanted memory.
abbrev pub AreSomeTold : (List ℕ → Type 0) → List (List ℕ) → List (List ℕ) → Type 0
AreSomeTold may old new = (new ≡ old ++ memory_line ∷ []) ⊎ ((piece : List ℕ) × IsTextOrLine may piece × (new ≡ old ++ piece ∷ memory_line ∷ []))

-- The pieces that it was asked to put at each status by a task for a sink: a text that it may get, or the line of the status.
abbrev pub ArePiecesTold : Which → Status → (List ℕ → Type 0) → List (List ℕ) → List (List ℕ) → Type 0
ArePiecesTold sink Done may old new = AreAllTold sink may old new
ArePiecesTold sink (WriteFault Report) may old new = IsOnePiece may old new
ArePiecesTold sink OutOfMemory may old new = AreSomeTold may old new
ArePiecesTold sink status may old new = new ≡ old ++ status_line status ∷ []

abbrev pub out_of_memory : Outcome
out_of_memory = Ended OutOfMemory

-- the status of an outcome, where what is to be reported is put whole
abbrev pub status_if_put : Outcome → Status
status_if_put (Ended status) = status
status_if_put (Found text) = Done

-- what is to be reported of a job that was done whole
abbrev pub text_to_report : Outcome → List ℕ
text_to_report (Ended status) = []
text_to_report (Found text) = string_bytes text

-- The report hasn't failed before anything was reported.
abbrev pub IsReportable : Outcome → Type 0
IsReportable (Ended (WriteFault Report)) = ⊥
IsReportable _ = Unit {0}

-- A task for the report has found something to report where it was done whole, any other has put it to the frames sink, and none has failed at another's sink.
abbrev pub SuitsSink : Which → Outcome → Type 0
SuitsSink sink (Ended (WriteFault Report)) = ⊥
SuitsSink Report (Ended (WriteFault Frames)) = ⊥
SuitsSink Report (Ended Done) = ⊥
SuitsSink Frames (Found text) = ⊥
SuitsSink _ _ = Unit {0}

-- How a run ends after an outcome: as it says, or by a fault of the report or out of memory.
abbrev pub IsEnded : Outcome → Status → Type 0
IsEnded (Ended Done) answer = answer ≡ Done
IsEnded (Ended status) answer = IsOrMemory status answer
IsEnded (Found text) answer = IsOrMemory Done answer ⊎ (answer ≡ WriteFault Report)

-- what an outcome is told by: its text, or the line of its status
abbrev pub told_by : Outcome → List ℕ
told_by (Ended status) = status_line status
told_by (Found text) = string_bytes text

-- The pieces that the report was asked to put at the end of a run after an outcome. Where memory ran out, the line of that is the last one.
abbrev pub ArePiecesFinished : Outcome → Status → List (List ℕ) → List (List ℕ) → Type 0
ArePiecesFinished (Ended Done) answer old new = new ≡ old
ArePiecesFinished (Ended OutOfMemory) answer old new = new ≡ old ++ memory_line ∷ []
ArePiecesFinished outcome OutOfMemory old new = (new ≡ old ++ memory_line ∷ []) ⊎ (new ≡ old ++ told_by outcome ∷ memory_line ∷ [])
ArePiecesFinished outcome answer old new = new ≡ old ++ told_by outcome ∷ []
