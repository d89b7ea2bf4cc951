-- Public: what a put answers.
use Rattle.std.specs.Prelude.{◌≡◌, ℕ, ◌≤◌, List, ◌++◌, Option}
use Rattle.std.specs.Io.KnownBytes.{Appends, Keeps}
use Rattle.ass_num.specs.Causes.{Rose}
use Rattle.ass_io.specs.declared.sink.Put.{Put}
use Rattle.ass_io.specs.declared.sink.Put.TheVariants.{Done, Failed, OutOfMemory}

-- The known bytes grow by a prefix of the piece, which may be nothing or the whole.
abbrev pub AppendsFront : Option (List ℕ) → Option (List ℕ) → List ℕ → Type 0
AppendsFront old new piece = (front : List ℕ) × (rest : List ℕ) × (piece ≡ front ++ rest) × Appends old new front

-- What the sink holds after each answer: the whole piece more, a prefix of it, or nothing more.
abbrev pub IsPut : Put → Option (List ℕ) → Option (List ℕ) → List ℕ → Type 0
IsPut Done old new piece = Appends old new piece
IsPut Failed old new piece = AppendsFront old new piece
IsPut OutOfMemory old new piece = Keeps old new

-- The count rose at `Failed`, and is as it was after any other answer.
abbrev pub IsPutCounted : Put → ℕ → ℕ → Type 0
IsPutCounted Failed before now = Rose before now × (before ≤ now)
IsPutCounted _ before now = now ≡ before
