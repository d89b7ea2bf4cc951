-- Public: what is seen of a sink.
use Rattle.std.specs.Prelude.{◌≡◌, ℕ, List, [], ◌∷◌, ◌++◌, Option}
use Rattle.ass_io.specs.Written.{IsPut, IsPutCounted}
use Rattle.ass_io.specs.declared.sink.Put.{Put}

-- The bytes that a sink holds, where it tells them, how often it failed, the pieces that it was asked to put, in order, and the names of the files that it made, in order. What it is put goes to the last of them, and where there is none to the stream that it began with.
pub record SinkState : Type 0 where
  pub held : Option (List ℕ)
  pub faults : ℕ
  pub asked : List (List ℕ)
  pub made : List (List ℕ)

-- A put of this piece was answered so. No file was made by that.
pub record IsPutAnswered (piece : List ℕ) (answer : Put) (old new : SinkState) : Type 0 where
  pub put : IsPut answer old.held new.held piece
  pub counted : IsPutCounted answer old.faults new.faults
  pub asked : new.asked ≡ old.asked ++ piece ∷ []
  pub made : new.made ≡ old.made
