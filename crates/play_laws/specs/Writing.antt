-- Public: what a command `write` that is done has put.
use Rattle.std.specs.Prelude.{◌≡◌, List, ℕ, Ok, ◌-ℤ◌}
use Rattle.std.specs.Io.KnownBytes.{Appends}
use Rattle.ass_io.specs.Fetched.{Told}
use Rattle.ass_io.specs.Fetches.{FetchChange}
use Rattle.single_run.specs.Runs.{IsJobRun, SinkChange}
use Rattle.single_run.specs.declared.work.Task.TheVariants.{Write}
use Rattle.single_run.specs.declared.work.Work.{Work}
use Rattle.single_run.specs.declared.work.WriteTask.{WriteTask}
use Rattle.run_status.specs.Inputs.{IsScriptRead}
use Rattle.run_status.specs.declared.inputs.Inputs.{Inputs}
use Rattle.run_words.specs.declared.job.ScriptSource.{ScriptSource}
use Rattle.run_status.specs.declared.status.Status.TheVariants.{Done}
use Rattle.picture_laws.specs.Laws.{AreReadLater}

-- The script of the name was read, and the frames sink got a text that is read as a script: at each instant, so much later and so much earlier, it shows what the first one shows at the old one.
pub record IsWrittenLater (told : List ℕ → Told) (script : ScriptSource) (write : WriteTask) (frames : SinkChange) : Type 0 where
  pub read : Inputs
  pub is_read : IsScriptRead told script (Ok read)
  pub bytes : List ℕ
  pub put : Appends frames.before.held frames.now.held bytes
  pub shows : AreReadLater (write.later -ℤ write.earlier) read.script bytes

-- So does each run of such a command that is done.
abbrev pub WrittenRunsShowTheSame : Type 0
WrittenRunsShowTheSame =
    (told : List ℕ → Told) (log : FetchChange) (work : Work) (write : WriteTask) (frames report : SinkChange)
    → work.task ≡ Write write → IsJobRun told log work frames report Done → IsWrittenLater told work.script write frames
