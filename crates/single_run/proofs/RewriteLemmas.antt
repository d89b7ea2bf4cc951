-- A script that is written again, and the status of that.
use Rattle.std.proofs.Common.{◌≡◌, inl, ℕ, List, Result, Ok, Err, ap, sym, subst}
use Rattle.ass_script.specs.declared.script.EventField.{EventField}
use Rattle.run_status.specs.declared.status.Status.{Status}
use Rattle.run_status.specs.declared.status.Status.TheVariants as status
use Rattle.run_status.specs.declared.status.Which.TheVariants.{Frames}
use Rattle.track_write.specs.Texts.{IsWriteAnswer}
use Rattle.track_write.specs.declared.refusal.WriteRefusal.{WriteRefusal}
use Rattle.track_write.specs.declared.refusal.WriteRefusal.TheVariants.{Unwritable}
use Rattle.single_run.specs.Outcomes.{IsOrFault}
use Rattle.single_run.specs.Outputs.{written_status}

pub said_text : (text : Result (List ℕ) WriteRefusal) (bytes : List ℕ) (answer : Status) → text ≡ Ok bytes → IsOrFault Frames status.Done answer → IsOrFault Frames (written_status text) answer
said_text text bytes answer is h = subst (λ t. IsOrFault Frames (written_status t) answer) (sym is) h

pub said_refusal : {X : Type 0} (said : X → List ℕ) (text : Result (List ℕ) WriteRefusal) (refusal : WriteRefusal) (order : ℕ) (field : EventField) → refusal ≡ Unwritable order field →
    IsWriteAnswer said (Err refusal) text → IsOrFault Frames (written_status text) (status.Unwritable order field)
said_refusal said text refusal order field is answer =
    let same : text ≡ Err (Unwritable order field) = subst (λ r. IsWriteAnswer said (Err r) text) is answer in
    inl (inl (sym (ap written_status same)))
