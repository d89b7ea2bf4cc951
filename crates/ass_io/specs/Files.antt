-- Public: the shelf of real files, and what reading an open file answers.
use Rattle.std.specs.Prelude.{◌≡◌, ℕ, ◌<◌, ◌≤◌, List, [], length, Option}
use Rattle.ass_num.specs.Causes.{IfTold}
use Rattle.ass_num.specs.Limits.{max_file_bytes}
use Rattle.ass_io.specs.declared.file_shelf.FileShelf.{FileShelf}
use Rattle.ass_io.specs.declared.shelf.Fetch.{Fetch}
use Rattle.ass_io.specs.declared.shelf.Fetch.TheVariants.{Got, Missing, Failed, TooLarge, OutOfMemory}

-- What each answer says of the bytes that a file had left, where it tells them, and which were read.
abbrev pub IsFileRead : Option (List ℕ) → Fetch → List ℕ → Type 0
IsFileRead left Got bytes = IfTold left (λ all. bytes ≡ all) × (length bytes ≤ max_file_bytes)
IsFileRead left TooLarge bytes = IfTold left (λ all. max_file_bytes < length all) × (bytes ≡ [])
IsFileRead left Failed bytes = bytes ≡ []
IsFileRead left OutOfMemory bytes = bytes ≡ []
IsFileRead left Missing bytes = ⊥

-- the count of a shelf of files
abbrev pub shelf_faults : {R F D : Type 0} → FileShelf R F D → ℕ
shelf_faults shelf = shelf.faults
