-- Public: what checks and plays come to, and how that is told (docs/PROGRAM.md).
use Rattle.std.specs.Prelude.{◌≡◌, ℕ, Bool, true, false, List, [], Option, Some, None, Result, Ok, Err}
use Rattle.ass_io.specs.Fetched.{Told}
use Rattle.ass_io.specs.Fetches.{FetchChange}
use Rattle.play_command.specs.PlayRuns.{IsPlayFetched, IsPlayRead, view_of}
use Rattle.play_command.specs.SelftestRuns.{summary_in}
use Rattle.play_command.specs.Working.{IsHeadedPlay, IsSelftestWorkedBy}
use Rattle.play_model.specs.Plays.{IsPlayable}
use Rattle.play_report.specs.JsonReports.{report_json}
use Rattle.play_report.specs.Reports.{report_text}
use Rattle.play_report.specs.declared.report.PlayReport.{PlayReport}
use Rattle.play_rounds.specs.declared.ends.PlayEnd.{PlayEnd}
use Rattle.play_rounds.specs.declared.ends.PlayEnd.TheVariants as play_end
use Rattle.run_status.specs.Endings.{memory_ending}
use Rattle.run_status.specs.Fetches.{AreFetched}
use Rattle.run_status.specs.Inputs.{AreRead}
use Rattle.run_status.specs.declared.ending.Ending.{Ending}
use Rattle.run_status.specs.declared.ending.Ending.TheVariants.{As, Closed, ClosedQuietly}
use Rattle.run_status.specs.declared.inputs.Inputs.{Inputs}
use Rattle.run_status.specs.declared.status.Status.{Status}
use Rattle.run_status.specs.declared.status.Status.TheVariants.{WriteFault}
use Rattle.run_status.specs.declared.status.Which.TheVariants.{Frames}
use Rattle.run_words.specs.ReportWords.{report_form}
use Rattle.run_words.specs.declared.job.Job.{Job}
use Rattle.run_words.specs.declared.job.Job.TheVariants as job
use Rattle.run_words.specs.declared.job.PlayJob.{PlayJob}
use Rattle.run_words.specs.declared.job.ScriptSource.{ScriptSource}
use Rattle.run_words.specs.declared.report_words.ReportForm.{ReportForm}
use Rattle.run_words.specs.declared.report_words.ReportOptions.{ReportOptions}
use Rattle.run_words.specs.declared.report_words.ReportForm.TheVariants.{Text, Json, Silent}
use Rattle.single_run.specs.Outputs.{kept_view}
use Rattle.single_run.specs.Runs.{SinkChange}
use Rattle.single_run.specs.declared.outcome.Outcome.{Outcome}
use Rattle.single_run.specs.declared.outcome.Outcome.TheVariants as outcome
use Rattle.single_run.specs.declared.work.Task.{Task}
use Rattle.single_run.specs.declared.work.Task.TheVariants as task
use Rattle.single_run.specs.declared.work.Work.{Work}
use Rattle.run_reports.specs.ChangeStreams.{AreChangesTold, changes_view}
use Rattle.run_reports.specs.CheckObjects.{check_in}
use Rattle.run_reports.specs.StillTales.{AreStillsTold}
use Rattle.run_reports.specs.Telling.{IsReportTale, IsTold}
use Rattle.run_reports.specs.declared.tale.Tale.{Tale}
use Rattle.run_reports.specs.declared.tale.Tale.TheVariants.{Ends, Found}

-- What came of a run was told.
abbrev pub IsTaleOf : ReportForm → (Tale → Type 0) → SinkChange → Ending → Type 0
IsTaleOf form may report ending = (tale : Tale) × may tale × IsTold form tale report.before report.now ending

-- This end was told.
abbrev pub IsEndTold : ReportForm → Ending → SinkChange → Ending → Type 0
IsEndTold form end report ending = IsTold form (Ends end) report.before report.now ending

-- how a play ends at a fault of the frames sink, whose reader may be gone, and which may then end well
abbrev pub fault_ending : Bool → Bool → Ending
fault_ending false is_quiet = As (WriteFault Frames)
fault_ending true false = Closed
fault_ending true true = ClosedQuietly

-- ---- a check, what changes, and only what changes

-- What is seen of the sinks of a run, the form of its report, how it ends at a fault of the frames sink, and the name of the file of a list, where one is wanted.
pub record ToldRun : Type 0 where
  pub form : ReportForm
  pub fault : Ending
  pub list : Option (List ℕ)
  pub frames : SinkChange
  pub index : SinkChange
  pub report : SinkChange

-- what is seen of a run that is told so, whose reader of the images may be gone at the end
abbrev pub told_run : ReportOptions → Bool → SinkChange → SinkChange → SinkChange → ToldRun
told_run options is_closed frames index report = record {
  form = report_form options;
  fault = fault_ending is_closed options.quiet_pipe;
  list = options.index;
  frames = frames;
  index = index;
  report = report;
}

-- Nothing was put but to the report.
abbrev pub HasShownNothing : ToldRun → Type 0
HasShownNothing run = (run.frames.now ≡ run.frames.before) × (run.index.now ≡ run.index.before)

-- What a check came to.
abbrev pub IsCheckTale : ReportForm → Inputs → Tale → Type 0
IsCheckTale form inputs tale = IsReportTale form (check_in form inputs.script inputs.fonts) tale

-- What was told of a task with what was read for it. No other task reports.
abbrev pub IsTaskTold : ToldRun → Task → Inputs → Ending → Type 0
IsTaskTold run task.Check inputs ending = HasShownNothing run × IsTaleOf run.form (IsCheckTale run.form inputs) run.report ending
IsTaskTold run (task.Changes changes) inputs ending =
    HasShownNothing run × AreChangesTold (changes_view run.form inputs.script inputs.fonts changes.instants changes.view) run.report.before run.report.now ending
IsTaskTold run (task.Stills stills) inputs ending =
    AreStillsTold run.form run.fault run.list (kept_view stills inputs) run.frames run.index run.report.before run.report.now ending
IsTaskTold run task inputs ending = ⊥

-- What was told after an answer about the files.
abbrev pub IsReadTold : ToldRun → Task → Result Inputs Status → Ending → Type 0
IsReadTold run task (Ok inputs) ending = IsTaskTold run task inputs ending
IsReadTold run task (Err refusal) ending = HasShownNothing run × IsEndTold run.form (As refusal) run.report ending

-- A run of some work. Its files are read with one answer, as far as it is told what they hold, and as what they gave when they were fetched.
pub record IsWorkRun (told : List ℕ → Told) (log : FetchChange) (run : ToldRun) (work : Work) (ending : Ending) : Type 0 where
  pub reading : Result Inputs Status
  pub read : AreRead told work.script work.fonts reading
  pub fetched : AreFetched work.script work.fonts log reading
  pub telling : IsReadTold run work.task reading ending

-- What was told of the work that words ask for. No file is fetched where they are refused.
abbrev pub IsWorkTold : (List ℕ → Told) → FetchChange → ToldRun → Result (Option Work) Status → Ending → Type 0
IsWorkTold told log run (Ok (Some work)) ending = IsWorkRun told log run work ending
IsWorkTold told log run (Ok None) ending = ⊥
IsWorkTold told log run (Err refusal) ending = (log.now ≡ log.before) × HasShownNothing run × IsEndTold run.form (As refusal) run.report ending

-- The task reports.
abbrev pub IsReportTask : Task → Type 0
IsReportTask task.Check = Unit {0}
IsReportTask (task.Changes changes) = Unit {0}
IsReportTask (task.Stills stills) = Unit {0}
IsReportTask _ = ⊥

-- So it is with the work of the job.
abbrev pub IsReportWork : Job → Type 0
IsReportWork (job.Check script fonts) = Unit {0}
IsReportWork (job.Changes changes script fonts) = Unit {0}
IsReportWork (job.Stills stills script fonts) = Unit {0}
IsReportWork _ = ⊥

-- ---- a play

-- the report of a play in a form
abbrev pub play_in : ReportForm → PlayReport → List ℕ
play_in Text report = report_text report
play_in Json report = report_json report
play_in Silent report = []

-- What a play that ended so came to, where it ends so at a fault of the frames sink.
abbrev pub IsPlayTale : ReportForm → Ending → PlayEnd → Tale → Type 0
IsPlayTale form fault (play_end.Done report) tale = IsReportTale form (play_in form report) tale
IsPlayTale form fault play_end.WriteFault tale = tale ≡ Ends fault
IsPlayTale form fault play_end.OutOfMemory tale = tale ≡ Ends memory_ending

-- What a play with what was read for it has shown, behind the head of its video, if it is one, and came to.
abbrev pub IsPlayOf : ReportForm → Ending → PlayJob → Result Inputs Status → SinkChange → Tale → Type 0
IsPlayOf form fault job (Err refusal) frames tale = (frames.now ≡ frames.before) × (tale ≡ Ends (As refusal))
IsPlayOf form fault job (Ok inputs) frames tale =
    IsPlayable (view_of job inputs) × ((end : PlayEnd) × IsHeadedPlay (view_of job inputs) end frames.before frames.now × IsPlayTale form fault end tale)

-- A play, up to what is to be told of it. Its files are read with one answer, as far as it is told what they hold, and as what they gave when they were fetched.
pub record IsPlayWhole (told : List ℕ → Told) (log : FetchChange) (form : ReportForm) (fault : Ending) (job : PlayJob) (script : ScriptSource) (fonts : List (List ℕ)) (frames : SinkChange) (tale : Tale) : Type 0 where
  pub reading : Result Inputs Status
  pub read : IsPlayRead told job script fonts reading
  pub fetched : IsPlayFetched job script fonts log reading
  pub came : IsPlayOf form fault job reading frames tale

-- A run of a play.
abbrev pub IsPlayTold : (List ℕ → Told) → FetchChange → ReportForm → Ending → PlayJob → ScriptSource → List (List ℕ) → SinkChange → SinkChange → Ending → Type 0
IsPlayTold told log form fault job script fonts frames report ending =
    IsTaleOf form (IsPlayWhole told log form fault job script fonts frames) report ending

-- ---- a selftest

-- what a selftest came to that had this outcome
abbrev pub tale_of : Outcome → Tale
tale_of (outcome.Found text) = Found text
tale_of (outcome.Ended status) = Ends (As status)

-- A run of a selftest, in whose report no number of workers is.
pub record IsSelftestTold (form : ReportForm) (seed events : ℕ) (report : SinkChange) (ending : Ending) : Type 0 where
  pub outcome : Outcome
  pub worked : IsSelftestWorkedBy (summary_in form) seed events outcome
  pub told : IsTold form (tale_of outcome) report.before report.now ending
