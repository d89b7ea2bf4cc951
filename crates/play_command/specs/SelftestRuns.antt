-- Public: a whole run of a selftest.
use Rattle.std.specs.Prelude.{◌≡◌, ◌⊎◌, ℕ, ◌*◌, ◌<◌, List, [], ◌∷◌, length, Some, Result, Ok, Err, slice_index_or, flat_map}
use Rattle.ass_script.specs.Ranges.{IsScript}
use Rattle.ass_script.specs.Scripts.{ScriptValue, script_of}
use Rattle.bdf_font.specs.Fonts.{FontValue}
use Rattle.single_run.specs.Outcomes.{ArePiecesTold, IsOrFault, IsOrMemory, IsReported}
use Rattle.single_run.specs.Runs.{SinkChange}
use Rattle.generated_script.specs.Generated.{generated}
use Rattle.generated_script.specs.Grid.{grid_font}
use Rattle.run_status.specs.Causes.{script_status, with_status}
use Rattle.run_status.specs.Files.{AsksOf}
use Rattle.run_status.specs.Laws.{IsReadDecided}
use Rattle.play_model.specs.Images.{IsSettledImage}
use Rattle.play_model.specs.Plays.{PlayView}
use Rattle.play_report.specs.Digests.{digest_after}
use Rattle.play_report.specs.JsonReports.{summary_json}
use Rattle.play_report.specs.Reports.{summary_text}
use Rattle.play_report.specs.declared.report.PlayReport.{PlayReport}
use Rattle.frame_rate.specs.Rates.{step_rate}
use Rattle.run_words.specs.declared.job.FrameFormat.TheVariants.{Ppm}
use Rattle.run_words.specs.declared.job.PlayFormat.TheVariants.{Image}
use Rattle.run_words.specs.declared.job.Mode.TheVariants.{Settled}
use Rattle.run_words.specs.declared.job.PlayJob.{PlayJob}
use Rattle.run_words.specs.declared.report_words.ReportForm.{ReportForm}
use Rattle.run_words.specs.declared.report_words.ReportForm.TheVariants.{Text, Json, Silent}
use Rattle.run_status.specs.declared.status.Status.{Status}
use Rattle.run_status.specs.declared.status.Status.TheVariants.{OutOfMemory}
use Rattle.run_status.specs.declared.status.Which.TheVariants.{Report}
use Rattle.ass_events.specs.ScriptEvents.{line_events}
use Rattle.play_command.specs.PlayRuns.{status_read}

-- how many images a selftest makes
abbrev pub image_count : ℕ
image_count = 20

-- What is played: instants over the time in which the events begin, with as many feeders and renderers as workers.
abbrev pub selftest_job : ℕ → ℕ → PlayJob
selftest_job events workers = record {
  instants = record { from = 0; count = image_count; rate = step_rate (5 * events) };
  size = record { w = 320; h = 180 };
  feeders = workers;
  renderers = workers;
  batch = 16;
  again = 0;
  times = 1;
  ahead = 0;
  bands = 1;
  format = Image Ppm;
  budget = 1048576;
  mode = Settled;
}

abbrev pub selftest_fonts : List FontValue
selftest_fonts = grid_font ∷ []

abbrev pub selftest_play : ScriptValue → ℕ → ℕ → PlayView
selftest_play script events workers = record { job = selftest_job events workers; script = script; fonts = selftest_fonts }

-- the ReadOrders that a play accepted at its first time
abbrev pub first_of_times : List (List ℕ) → List ℕ
first_of_times [] = []
first_of_times (orders ∷ times) = orders

abbrev pub accepted_first : PlayReport → List ℕ
accepted_first report = first_of_times report.accepted

-- a text of a selftest's seed, events, accepted events, images and digest
abbrev pub SummaryText : Type 0
SummaryText = ℕ → ℕ → ℕ → ℕ → ℕ → List ℕ

-- it in a form
abbrev pub summary_in : ReportForm → SummaryText
summary_in Text = summary_text
summary_in Json = summary_json
summary_in Silent = λ seed events accepted frames digest. []

-- The report of a selftest: the digest of its images, each of what all events of the script show. It is that of one worker.
pub record IsSelftestTextBy (write : SummaryText) (script : ScriptValue) (seed events : ℕ) (text : List ℕ) : Type 0 where
  pub sound : IsScript script
  pub pieces : List (List ℕ)
  pub many : length pieces ≡ image_count
  pub each : (i : ℕ) (d : List ℕ) → i < image_count → IsSettledImage (selftest_play script events 1) 0 i (slice_index_or pieces i d)
  pub value : text ≡ write seed events (length (line_events script)) image_count (digest_after 0 (flat_map (λ piece. piece) pieces))

abbrev pub IsSelftestText : ScriptValue → ℕ → ℕ → List ℕ → Type 0
IsSelftestText = IsSelftestTextBy summary_text

abbrev pub IsSelftestReportBy : SummaryText → ℕ → ℕ → Result ScriptValue Status → List ℕ → Type 0
IsSelftestReportBy write seed events (Err refusal) text = text ≡ []
IsSelftestReportBy write seed events (Ok script) text = IsSelftestTextBy write script seed events text

abbrev pub IsSelftestReport : ℕ → ℕ → Result ScriptValue Status → List ℕ → Type 0
IsSelftestReport = IsSelftestReportBy summary_text

-- What reading bytes as a script answers: what a file asks for that holds them, or out of memory.
abbrev pub IsScriptIn : List ℕ → Result ScriptValue Status → Type 0
IsScriptIn bytes reading = AsksOf (λ all answer. answer ≡ with_status script_status (script_of all)) [] (Some bytes) reading ⊎ (reading ≡ Err OutOfMemory)

-- What reading the generated script answers.
abbrev pub IsSelftestRead : ℕ → ℕ → Result ScriptValue Status → Type 0
IsSelftestRead seed events reading = IsScriptIn (generated seed events) reading

-- A run of a selftest. Its script is read as a file that holds the generated one; that asks for the status and for the report, in which no number of workers is.
pub record IsSelftestRun (seed events : ℕ) (report : SinkChange) (status : Status) : Type 0 where
  pub reading : Result ScriptValue Status
  pub read : IsSelftestRead seed events reading
  pub answered : IsOrFault Report (status_read reading) status
  pub reported : IsReported status report.before.held report.now.held report.before.faults report.now.faults (IsSelftestReport seed events reading)
  pub pieces : ArePiecesTold Report status (IsSelftestReport seed events reading) report.before.asked report.now.asked

-- The generated script decides a run where the report didn't fail: what its reading asks for, or out of memory.
abbrev pub DecidesSelftest : ℕ → ℕ → Status → Type 0
DecidesSelftest seed events status =
    (reading : Result ScriptValue Status) → IsSelftestRead seed events reading → IsReadDecided reading → IsOrMemory (status_read reading) status
