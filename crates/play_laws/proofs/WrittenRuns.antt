-- What a command `write` that is done has put.
use Rattle.std.proofs.Common.{◌≡◌, inl, inr, refl, sym, subst, ℕ, Bool, List, Some, None, Result, Ok, Err, ◌-ℤ◌}
use Rattle.std.specs.Io.KnownBytes.{Appends}
use Rattle.ass_events.specs.declared.event.Event.{Event}
use Rattle.ass_io.specs.Fetched.{Held, Told}
use Rattle.ass_script.specs.Scripts.{ScriptValue, script_of}
use Rattle.single_run.specs.Outcomes.{IsOrFault}
use Rattle.single_run.specs.Outputs.{IsAnswerOf, IsFramesAsked, IsShownOf, rewritten, sink_of, status_asked, written_with}
use Rattle.single_run.specs.Runs.{SinkChange}
use Rattle.single_run.specs.declared.work.Task.{Task}
use Rattle.single_run.specs.declared.work.Task.TheVariants.{Write}
use Rattle.single_run.specs.declared.work.WriteTask.{WriteTask}
use Rattle.run_status.specs.Files.{AsksScript}
use Rattle.run_status.specs.Inputs.{AreRead, IsScriptRead}
use Rattle.run_status.specs.declared.inputs.Inputs.{Inputs}
use Rattle.play_laws.proofs.RunLemmas.{read_not_done}
use Rattle.play_laws.specs.Writing.{IsWrittenLater, WrittenRunsShowTheSame}
use Rattle.run_status.specs.declared.status.Status.{Status}
use Rattle.run_status.specs.declared.status.Status.TheVariants.{Done}
use Rattle.ass_events.specs.ScriptEvents.{line_events}
use Rattle.track_write.specs.Shifts.{shifted}
use Rattle.track_write.specs.Texts.{written}
use Rattle.track_write.specs.declared.refusal.WriteRefusal.{WriteRefusal}
use Rattle.picture_laws.specs.Laws.{AreReadLater, ReadScriptsAreReadLater}
use Rattle.single_run.proofs.InputLemmas.{read_with}
use Rattle.run_words.specs.declared.job.ScriptSource.{ScriptSource}

-- ---- the script that was read

-- some bytes spell it
has_source : (own_fonts : Bool) (name : List ℕ) (held : Held) (inputs : Inputs) → AsksScript own_fonts name held (Ok inputs) → (source : List ℕ) × (script_of source ≡ Ok inputs.script)
has_source own_fonts name None inputs e = absurd cc
has_source own_fonts name (Some bytes) inputs (inl (small, (fonts, own, e))) = (bytes, read_with (script_of bytes) fonts inputs e)
has_source own_fonts name (Some bytes) inputs (inr (large, e)) = absurd cc

script_is_read : (told : List ℕ → Told) (script : ScriptSource) (fonts : List (List ℕ)) (inputs : Inputs) → AreRead told script fonts (Ok inputs) →
    (read : Inputs) × IsScriptRead told script (Ok read) × (inputs.script ≡ read.script)
script_is_read told script fonts inputs (inl (few, (read, is, same, behind))) = (read, is, same)
script_is_read told script fonts inputs (inr (many, e)) = absurd cc

-- ---- what was put

abbrev IsMovedAnd : ScriptValue → List ℕ → Result (List Event) WriteRefusal → Type 0
IsMovedAnd script bytes answer = (moved : List Event) × (answer ≡ Ok moved) × (written script moved ≡ Ok bytes)

moved_and : (script : ScriptValue) (bytes : List ℕ) (answer : Result (List Event) WriteRefusal) → written_with script answer ≡ Ok bytes → IsMovedAnd script bytes answer
moved_and script bytes (Ok moved) e = (moved, refl, e)
moved_and script bytes (Err refusal) e = absurd cc

module _ (law : ReadScriptsAreReadLater) (told : List ℕ → Told) (name : ScriptSource) (fonts : List (List ℕ)) (write : WriteTask) (frames : SinkChange) where
  read_later : (read : Inputs) (bytes : List ℕ) → IsScriptRead told name (Ok read) → rewritten write read.script ≡ Ok bytes → AreReadLater (write.later -ℤ write.earlier) read.script bytes
  read_later read bytes is_read is =
      let source = has_source name.own_fonts name.name is_read.0 read is_read.2 in
      let both = moved_and read.script bytes (shifted write.later write.earlier (line_events read.script)) is in
      law source.0 read.script write.later write.earlier both.0 bytes source.1 both.1 both.2

  put_after : (reading : Result Inputs Status) (bytes : List ℕ) → AreRead told name fonts reading → IsOrFault (sink_of (Write write)) (status_asked (Write write) reading) Done
      → IsFramesAsked (Write write) reading bytes → Appends frames.before.held frames.now.held bytes → IsWrittenLater told name write frames
  put_after (Ok inputs) bytes read answered asked put =
      let (held, is_read, same) = script_is_read told name fonts inputs read in
      record { read = held; is_read = is_read; bytes = bytes; put = put; shows = read_later held bytes is_read (subst (λ (s : ScriptValue). rewritten write s ≡ Ok bytes) same asked) }
  put_after (Err refusal) bytes read (inl (inl is)) asked put =
      absurd (read_not_done told name fonts (subst (λ (status : Status). AreRead told name fonts (Err status)) (sym is) read))
  put_after (Err refusal) bytes read (inl (inr memory)) asked put = absurd cc
  put_after (Err refusal) bytes read (inr (is, fault)) asked put = absurd cc

pub written_runs : ReadScriptsAreReadLater → WrittenRunsShowTheSame
written_runs law told log work write frames report is run =
    let shown : IsShownOf (Write write) run.reading run.kept Done frames.before.held frames.now.held =
    subst (λ (task : Task). IsShownOf task run.reading run.kept Done frames.before.held frames.now.held) is run.shown in
    let answered : IsAnswerOf (Write write) (status_asked (Write write) run.reading) Done =
    subst (λ (task : Task). IsAnswerOf task (status_asked task run.reading) Done) is run.answered in
    put_after law told work.script work.fonts write frames run.reading shown.0 run.read answered shown.1 shown.2
