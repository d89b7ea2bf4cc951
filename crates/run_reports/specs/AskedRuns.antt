-- Public: a run of the program that is told how to report, by its words (docs/PROGRAM.md).
use Rattle.std.specs.Prelude.{◌≡◌, ◌⊎◌, ℕ, Bool, true, false, not, ◌&&◌, List, Option, Some, None, Result, Ok, Err}
use Rattle.ass_io.specs.Fetched.{Told}
use Rattle.ass_io.specs.Fetches.{FetchChange}
use Rattle.ass_io.specs.Outputs.{IsMakingAnswered}
use Rattle.ass_io.specs.Sinks.{SinkState}
use Rattle.ass_io.specs.declared.named_sink.Making.{Making}
use Rattle.ass_io.specs.declared.named_sink.Making.TheVariants.{Made, Failed, OutOfMemory}
use Rattle.play_command.specs.WordRuns.{IsRunOfWords}
use Rattle.run_status.specs.Endings.{memory_ending}
use Rattle.run_status.specs.declared.ending.Ending.{Ending}
use Rattle.run_status.specs.declared.ending.Ending.TheVariants.{As, ListFault}
use Rattle.run_status.specs.declared.status.Status.{Status}
use Rattle.run_status.specs.declared.status.Status.TheVariants.{WriteFault}
use Rattle.run_status.specs.declared.status.Which.TheVariants.{Report}
use Rattle.run_words.specs.ReportWords.{report_form, is_plain, options_of}
use Rattle.run_words.specs.Words.{job_of}
use Rattle.run_words.specs.declared.job.Job.{Job}
use Rattle.run_words.specs.declared.job.Job.TheVariants as job
use Rattle.run_words.specs.declared.job.WordsFault.{WordsFault}
use Rattle.run_words.specs.declared.report_words.ReportForm.{ReportForm}
use Rattle.run_words.specs.declared.report_words.ReportForm.TheVariants.{Text}
use Rattle.run_words.specs.declared.report_words.ReportOptions.{ReportOptions}
use Rattle.single_run.specs.Runs.{SinkChange, sink_change}
use Rattle.single_run.specs.Works.{work_in}
use Rattle.run_reports.specs.Tales.{HasShownNothing, IsEndTold, IsPlayTold, IsSelftestTold, IsWorkTold, ToldRun, fault_ending, told_run}
use Rattle.run_reports.specs.Telling.{IsMemorySaid}

-- the job has a report that can be told otherwise
abbrev pub reports : Job → Bool
reports (job.Check script fonts) = true
reports (job.Changes changes script fonts) = true
reports (job.Play play script fonts) = true
reports (job.Stills stills script fonts) = true
reports (job.Selftest seed events workers) = true
reports _ = false

-- the words ask for a job whose report is to be told otherwise than by default
abbrev pub asks_otherwise : ReportOptions → Result Job WordsFault → Bool
asks_otherwise options (Ok job) = reports job && not (is_plain options)
asks_otherwise options (Err fault) = false

-- A run by default.
pub record IsPlainRun (told : List ℕ → Told) (log : FetchChange) (words : List (List ℕ)) (frames report : SinkChange) (ending : Ending) : Type 0 where
  pub status : Status
  pub as_is : ending ≡ As status
  pub run : IsRunOfWords told log words frames report status

-- What is seen of a run: what the shelf tells, its fetches, the frames sink, that of a list, the report, and whether who reads the images is gone at the end.
pub record RunSight : Type 0 where
  pub told : List ℕ → Told
  pub log : FetchChange
  pub frames : SinkChange
  pub index : SinkChange
  pub report : SinkChange
  pub is_closed : Bool

abbrev pub fault_end : ReportOptions → RunSight → Ending
fault_end options run = fault_ending run.is_closed options.quiet_pipe

-- what is seen of how it is told
abbrev pub telling_of : ReportOptions → RunSight → ToldRun
telling_of options run = told_run options run.is_closed run.frames run.index run.report

-- A job was done and told as is asked for.
abbrev pub IsJobTold : ReportOptions → Job → RunSight → Ending → Type 0
IsJobTold options (job.Play play script fonts) run ending =
    (run.index.now ≡ run.index.before) × IsPlayTold run.told run.log (report_form options) (fault_end options run) play script fonts run.frames run.report ending
IsJobTold options (job.Selftest seed events workers) run ending =
    (run.log.now ≡ run.log.before) × HasShownNothing (telling_of options run) × IsSelftestTold (report_form options) seed events run.report ending
IsJobTold options asked run ending = IsWorkTold run.told run.log (telling_of options run) (work_in (Ok asked)) ending

-- A file was made, where one is named.
abbrev pub IsFileBegun : Option (List ℕ) → Making → SinkState → SinkState → Type 0
IsFileBegun None making old new = (making ≡ Made) × (new ≡ old)
IsFileBegun (Some name) making old new = IsMakingAnswered name making old new

-- Nothing was fetched, shown or listed.
abbrev pub IsNothingDone : FetchChange → SinkChange → SinkChange → Type 0
IsNothingDone log frames index = (log.now ≡ log.before) × (frames.now ≡ frames.before) × (index.now ≡ index.before)

-- A run that ended so before anything was done, which is told.
pub record IsEndedAtOnce (form : ReportForm) (end : Ending) (log : FetchChange) (frames index report : SinkChange) (ending : Ending) : Type 0 where
  pub nothing : IsNothingDone log frames index
  pub told : IsEndTold form end report ending

-- The run after a file was made or wasn't: it goes on where it was, and where it wasn't it ends at once with this fault, or out of memory.
abbrev pub IsRunAfter : Making → Type 0 → (Ending → Type 0) → Ending → Type 0
IsRunAfter Made goes_on ends fault = goes_on
IsRunAfter Failed goes_on ends fault = ends fault
IsRunAfter OutOfMemory goes_on ends fault = ends memory_ending

abbrev pub run_sight : (List ℕ → Told) → FetchChange → SinkChange → SinkChange → SinkChange → Bool → RunSight
run_sight told log frames index report is_closed = record { told = told; log = log; frames = frames; index = index; report = report; is_closed = is_closed }

-- The rest of a run, whose report goes where it is to go. Before all else the file of the list is made, where there is one.
pub record IsRunListed (told : List ℕ → Told) (log : FetchChange) (options : ReportOptions) (asked : Job) (frames index report : SinkChange) (is_closed : Bool) (ending : Ending) : Type 0 where
  pub making : Making
  pub begun : SinkState
  pub makes : IsFileBegun options.index making index.before begun
  pub run : IsRunAfter making (IsJobTold options asked (run_sight told log frames (sink_change begun index.now) report is_closed) ending)
      (λ end. IsEndedAtOnce (report_form options) end log frames (sink_change begun index.now) report ending) ListFault

-- A run whose report is told otherwise. Before all else the file of the report is made, where there is one.
pub record IsRunOtherwise (told : List ℕ → Told) (log : FetchChange) (options : ReportOptions) (asked : Job) (frames index report : SinkChange) (is_closed : Bool) (ending : Ending) : Type 0 where
  pub making : Making
  pub begun : SinkState
  pub makes : IsFileBegun options.file making report.before begun
  pub run : IsRunAfter making (IsRunListed told log options asked frames index (sink_change begun report.now) is_closed ending)
      (λ end. IsEndedAtOnce (report_form options) end log frames index (sink_change begun report.now) ending) (As (WriteFault Report))

-- Memory ran out for the words. Nothing was done, and this was said where the report goes by default.
pub record IsMemoryAtOnce (log : FetchChange) (frames index report : SinkChange) (ending : Ending) : Type 0 where
  pub nothing : IsNothingDone log frames index
  pub said : IsMemorySaid Text report.before report.now ending

-- A run of the program by default, or as the words ask for.
pub record IsAskedRun (told : List ℕ → Told) (log : FetchChange) (words : List (List ℕ)) (frames index report : SinkChange) (is_closed : Bool) (ending : Ending) : Type 0 where
  pub plain : asks_otherwise (options_of words) (job_of words) ≡ false → (index.now ≡ index.before) × IsPlainRun told log words frames report ending
  pub otherwise : (asked : Job) → job_of words ≡ Ok asked → asks_otherwise (options_of words) (Ok asked) ≡ true
      → IsMemoryAtOnce log frames index report ending ⊎ IsRunOtherwise told log (options_of words) asked frames index report is_closed ending
