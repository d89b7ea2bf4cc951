-- Lines that give an event.
use Rattle.std.proofs.Common.{◌≡◌, ℕ, Some, None, Result, Ok, Err, refl}
use Rattle.std.specs.Prelude.{IfOk, OnErr}
use Rattle.std.specs.Result.{result_ok}
use Rattle.ass_events.specs.Events.{fault_of}
use Rattle.ass_events.specs.declared.event.ChunkRefusal.{ChunkRefusal}
use Rattle.ass_events.specs.declared.event.Event.{Event}
use Rattle.ass_num.specs.declared.memory.OutOfMemory.{OutOfMemory}
use Rattle.track_history.specs.declared.answers.TurnOut.{TurnOut}

-- a line that gives an event has no fault
pub given_faultless : (given : Result Event ChunkRefusal) (event : Event) → Some event ≡ result_ok given → fault_of given ≡ None
given_faultless (Ok e) event is = refl
given_faultless (Err refusal) event is = absurd cc

-- what is so whatever is told
pub told_anyhow : (answer : Result (Result ℕ OutOfMemory) TurnOut) (X : Type 0) → X → IfOk answer (λ told. OnErr told X)
told_anyhow (Ok (Ok count)) X x = tt
told_anyhow (Ok (Err refused)) X x = x
told_anyhow (Err out) X x = tt
