-- Public: sinks that can be told the name of a file.
use Rattle.std.specs.Prelude.{◌≡◌, ℕ, ◌≤◌, List, [], ◌∷◌, ◌++◌}
use Rattle.ass_num.specs.Causes.{Rose}
use Rattle.ass_io.specs.Sinks.{SinkState}
use Rattle.ass_io.specs.declared.named_sink.Making.{Making}
use Rattle.ass_io.specs.declared.named_sink.Making.TheVariants.{Made, Failed}

-- the names after an answer
abbrev pub made_after : Making → List (List ℕ) → List ℕ → List (List ℕ)
made_after Made made name = made ++ name ∷ []
made_after _ made name = made

-- The count rose at `Failed`, and is as it was after any other answer.
abbrev pub IsMakingCounted : Making → ℕ → ℕ → Type 0
IsMakingCounted Failed before now = Rose before now × (before ≤ now)
IsMakingCounted _ before now = now ≡ before

-- A sink was told this name, and answered so. Nothing was put by that.
pub record IsMakingAnswered (name : List ℕ) (answer : Making) (old new : SinkState) : Type 0 where
  pub made : new.made ≡ made_after answer old.made name
  pub held : new.held ≡ old.held
  pub counted : IsMakingCounted answer old.faults new.faults
  pub asked : new.asked ≡ old.asked
