-- Public: what a fetch answers, by what is told of the name.
use Rattle.std.specs.Prelude.{◌≡◌, ◌⊎◌, ℕ, ◌<◌, ◌≤◌, List, [], length, Option, Some, None, IsSomeAnd, nat_le, if◌then◌else◌}
use Rattle.ass_num.specs.Causes.{Rose, IfTold}
use Rattle.ass_num.specs.Limits.{max_file_bytes}
use Rattle.ass_io.specs.declared.shelf.Fetch.{Fetch}
use Rattle.ass_io.specs.declared.shelf.Fetch.TheVariants.{Got, Missing, Failed, TooLarge, OutOfMemory}

-- What a name holds: nothing, or these bytes.
abbrev pub Held : Type 0
Held = Option (List ℕ)

-- What a shelf tells of a name: nothing, or what it holds.
abbrev pub Told : Type 0
Told = Option Held

-- The name holds these bytes.
abbrev pub Holds : List ℕ → Held → Type 0
Holds bytes held = held ≡ Some bytes

-- Nothing has the name.
abbrev pub IsMissing : Held → Type 0
IsMissing held = held ≡ None

-- The name holds more bytes than a file may have.
abbrev pub IsTooLarge : Held → Type 0
IsTooLarge held = IsSomeAnd held (λ bytes. max_file_bytes < length bytes)

-- What each answer says of the name, where that is told, and which bytes were read.
abbrev pub IsFetched : Told → Fetch → List ℕ → Type 0
IsFetched told Got bytes = IfTold told (Holds bytes) × (length bytes ≤ max_file_bytes)
IsFetched told Missing bytes = IfTold told IsMissing × (bytes ≡ [])
IsFetched told TooLarge bytes = IfTold told IsTooLarge × (bytes ≡ [])
IsFetched told Failed bytes = bytes ≡ []
IsFetched told OutOfMemory bytes = bytes ≡ []

-- The answers that may come in place of every other.
abbrev pub MayComeInstead : Fetch → Type 0
MayComeInstead Failed = Unit {0}
MayComeInstead OutOfMemory = Unit {0}
MayComeInstead _ = ⊥

-- the answer that what a name holds asks for
abbrev pub fetch_answer : Held → Fetch
fetch_answer None = Missing
fetch_answer (Some bytes) = if nat_le (length bytes) max_file_bytes then Got else TooLarge

-- Where it is told what the name holds, the answer is the one for that, or came instead.
abbrev pub IsFetchDecided : Told → Fetch → Type 0
IsFetchDecided told answer = IfTold told (λ held. (answer ≡ fetch_answer held) ⊎ MayComeInstead answer)

-- The count rose at `Failed`, and is as it was after any other answer.
abbrev pub IsFetchCounted : Fetch → ℕ → ℕ → Type 0
IsFetchCounted Failed before now = Rose before now × (before ≤ now)
IsFetchCounted _ before now = now ≡ before
