-- Public: a whole run of a job.
use Rattle.std.specs.Prelude.{◌≡◌, ℕ, List, Result}
use Rattle.ass_io.specs.Fetched.{Told}
use Rattle.ass_io.specs.Fetches.{FetchChange}
use Rattle.ass_io.specs.Sinks.{SinkState}
use Rattle.run_status.specs.Fetches.{AreFetched}
use Rattle.run_status.specs.Inputs.{AreRead}
use Rattle.run_status.specs.Laws.{AreTold, IsReadDecided}
use Rattle.run_status.specs.declared.inputs.Inputs.{Inputs}
use Rattle.single_run.specs.declared.work.Work.{Work}
use Rattle.run_status.specs.declared.status.Status.{Status}
use Rattle.run_status.specs.declared.status.Status.TheVariants.{Done}
use Rattle.single_run.specs.Outcomes.{ArePiecesTold, IsOrMemory, IsReported, status_if_put, text_to_report}
use Rattle.single_run.specs.Outputs.{AreKeptOf, ArePiecesOf, IsAnswerOf, IsReportAsked, IsShownOf, SuitsTask, sink_of, status_asked}
use Rattle.single_run.specs.declared.work.Task.{Task}
use Rattle.still_images.specs.Stills.{Still}
use Rattle.single_run.specs.declared.outcome.Outcome.{Outcome}

-- What is seen of a sink before and after.
pub record SinkChange : Type 0 where
  pub before : SinkState
  pub now : SinkState

abbrev pub sink_change : SinkState → SinkState → SinkChange
sink_change before now = record { before = before; now = now }

-- What a task puts to the frames sink after an answer about its inputs, and what is to be reported: all of one list of the pictures that it keeps.
pub record IsTaskDone (task : Task) (reading : Result Inputs Status) (frames : SinkChange) (outcome : Outcome) : Type 0 where
  pub kept : List Still
  pub are_kept : AreKeptOf task reading (status_if_put outcome) kept
  pub shown : IsShownOf task reading kept (status_if_put outcome) frames.before.held frames.now.held
  pub pieces : ArePiecesOf task reading kept (status_if_put outcome) frames.before.asked frames.now.asked
  pub text : status_if_put outcome ≡ Done → IsReportAsked task reading kept (text_to_report outcome)

-- A job before anything is reported. Its files are read with one answer, as far as it is told what they hold, and as what they gave when they were fetched; that answer asks for the status, and for what may be shown and what is to be reported.
pub record IsWorked (told : List ℕ → Told) (log : FetchChange) (work : Work) (frames : SinkChange) (outcome : Outcome) : Type 0 where
  pub reading : Result Inputs Status
  pub read : AreRead told work.script work.fonts reading
  pub fetched : AreFetched work.script work.fonts log reading
  pub answered : IsAnswerOf work.task (status_asked work.task reading) (status_if_put outcome)
  pub done : IsTaskDone work.task reading frames outcome
  pub own : SuitsTask work.task outcome

-- A run of a job. Its files are read with one answer, as far as it is told what they hold, and as what they gave when they were fetched; that answer asks for the status, and for what the sinks may get. Of a play of only what changes they get the images and the index of one list of kept pictures.
pub record IsJobRun (told : List ℕ → Told) (log : FetchChange) (work : Work) (frames report : SinkChange) (status : Status) : Type 0 where
  pub reading : Result Inputs Status
  pub read : AreRead told work.script work.fonts reading
  pub fetched : AreFetched work.script work.fonts log reading
  pub answered : IsAnswerOf work.task (status_asked work.task reading) status
  pub kept : List Still
  pub are_kept : AreKeptOf work.task reading status kept
  pub shown : IsShownOf work.task reading kept status frames.before.held frames.now.held
  pub pieces_shown : ArePiecesOf work.task reading kept status frames.before.asked frames.now.asked
  pub reported : IsReported status report.before.held report.now.held report.before.faults report.now.faults (IsReportAsked work.task reading kept)
  pub pieces_told : ArePiecesTold (sink_of work.task) status (IsReportAsked work.task reading kept) report.before.asked report.now.asked

-- Files that are all told of decide a run where no fault came: the answer that their reading asks for, or out of memory.
abbrev pub Decides : (List ℕ → Told) → Work → Status → Type 0
Decides told work status =
    (reading : Result Inputs Status) → AreTold told work.script work.fonts → AreRead told work.script work.fonts reading → IsReadDecided reading →
    IsOrMemory (status_asked work.task reading) status
