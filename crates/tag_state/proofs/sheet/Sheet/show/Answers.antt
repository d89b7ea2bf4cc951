use Rattle.std.specs.Prelude.{Result, Ok, Err, OnOk}
use Rattle.tag_state.proofs.sheet.Sheet.show.Goals as goal

-- what holds anyway holds on success
anyway : {T E : Type 0} (answer : Result T E) (P : Type 0) → P → OnOk answer P
anyway (Ok value) P is = is
anyway (Err refusal) P is = tt

pub returns-clause-held : goal.returns-clause-held
returns-clause-held c = λ names is all. anyway c.push.result _ (c.in_ok-state.ensures.held names is all)
