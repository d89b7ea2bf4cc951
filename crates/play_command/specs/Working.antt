-- Public: plays, selftests and texts of the program up to what is to be reported of them.
use Rattle.std.specs.Prelude.{◌≡◌, ◌⊎◌, ℕ, ◌≤◌, List, ◌++◌, All, length, Result, Ok, Err, string_bytes}
use Rattle.std.specs.Io.KnownBytes.{Appends, Keeps}
use Rattle.ass_io.specs.Fetched.{Told}
use Rattle.ass_io.specs.Fetches.{FetchChange}
use Rattle.ass_io.specs.Sinks.{SinkState}
use Rattle.ass_num.specs.Limits.{max_file_bytes}
use Rattle.ass_script.specs.Ranges.{IsScript}
use Rattle.ass_script.specs.Scripts.{ScriptValue}
use Rattle.single_run.specs.Outcomes.{IsOrFault, SuitsSink, out_of_memory, status_if_put, text_to_report}
use Rattle.single_run.specs.Runs.{SinkChange}
use Rattle.single_run.specs.declared.outcome.Outcome.{Outcome}
use Rattle.single_run.specs.declared.outcome.Outcome.TheVariants.{Ended, Found}
use Rattle.run_status.specs.declared.inputs.Inputs.{Inputs}
use Rattle.play_model.specs.Heads.{play_head}
use Rattle.play_model.specs.Plays.{IsPlayable, PlayView}
use Rattle.play_report.specs.Digests.{digest_after}
use Rattle.play_report.specs.Reports.{report_text, summary_text}
use Rattle.play_rounds.specs.Outputs.{AreCutOff, AreWritten, IsPlayed}
use Rattle.play_rounds.specs.declared.ends.PlayEnd.{PlayEnd}
use Rattle.play_rounds.specs.declared.ends.PlayEnd.TheVariants as play_end
use Rattle.play_rounds.specs.declared.ends.Stop.TheVariants as stop
use Rattle.run_words.specs.declared.job.Job.{Job}
use Rattle.run_words.specs.declared.job.Job.TheVariants.{Help, Play, Selftest, Version}
use Rattle.run_words.specs.declared.job.PlayJob.{PlayJob}
use Rattle.run_status.specs.declared.status.Status.{Status}
use Rattle.run_status.specs.declared.status.Status.TheVariants.{Done, OutOfMemory, WriteFault}
use Rattle.run_status.specs.declared.status.Which.TheVariants.{Frames, Report}
use Rattle.text_layout.specs.Fonts.{IsLayoutFontSet}
use Rattle.play_command.specs.OwnTexts.{IsTextWorked}
use Rattle.play_command.specs.PlayRuns.{IsEarlyOutput, IsPlayFetched, IsPlayRead, IsStreamFront, IsStreamOutput, early_pieces, front_pieces, output_pieces, status_read, view_of}
use Rattle.play_command.specs.SelftestRuns.{IsSelftestRead, IsSelftestReportBy, SummaryText, accepted_first, selftest_fonts}
use Rattle.run_words.specs.declared.job.ScriptSource.{ScriptSource}
use Rattle.play_command.specs.declared.help.TheConstants.{HELP}
use Rattle.play_command.specs.declared.own_text.TheConstants.{VERSION}

-- There is something to report: a text, or the line of a status.
abbrev pub IsSpoken : Outcome → Type 0
IsSpoken (Ended Done) = ⊥
IsSpoken outcome = Unit {0}

-- What is to be reported of a play that ended so.
abbrev pub IsToldOf : PlayEnd → Outcome → Type 0
IsToldOf (play_end.Done report) (Found text) = string_bytes text ≡ report_text report
IsToldOf (play_end.Done report) outcome = outcome ≡ out_of_memory
IsToldOf play_end.WriteFault outcome = outcome ≡ Ended (WriteFault Frames)
IsToldOf play_end.OutOfMemory outcome = outcome ≡ out_of_memory

-- The head was put, and then the play came so far.
pub record IsPlayedBehind (play : PlayView) (end : PlayEnd) (old new : SinkState) : Type 0 where
  pub behind : SinkState
  pub head : AreWritten (play_head play) old behind
  pub played : IsPlayed play end behind new

-- The head wasn't put.
abbrev pub IsHeadCut : PlayView → PlayEnd → SinkState → SinkState → Type 0
IsHeadCut play (play_end.Done report) old new = ⊥
IsHeadCut play play_end.WriteFault old new = AreCutOff stop.WriteFault (play_head play) old new
IsHeadCut play play_end.OutOfMemory old new = AreCutOff stop.OutOfMemory (play_head play) old new

-- A play with its head came so far.
abbrev pub IsHeadedPlay : PlayView → PlayEnd → SinkState → SinkState → Type 0
IsHeadedPlay play end old new = IsHeadCut play end old new ⊎ IsPlayedBehind play end old new

-- What the frames sink got of a play that came so far.
abbrev pub IsPlayShown : PlayView → SinkChange → Outcome → Type 0
IsPlayShown play frames (Found text) =
    (bytes : List ℕ) × (stream : IsStreamOutput play bytes (string_bytes text)) × Appends frames.before.held frames.now.held bytes
    × (frames.now.asked ≡ frames.before.asked ++ output_pieces play bytes (string_bytes text) stream)
IsPlayShown play frames (Ended (WriteFault Frames)) =
    (bytes : List ℕ) × (front : IsStreamFront play bytes) × Appends frames.before.held frames.now.held bytes × (frames.now.asked ≡ frames.before.asked ++ front_pieces play bytes front)
IsPlayShown play frames (Ended OutOfMemory) =
    (bytes : List ℕ) × (early : IsEarlyOutput play bytes) × Appends frames.before.held frames.now.held bytes
    × (frames.now.asked ≡ frames.before.asked ++ early_pieces play bytes early)
IsPlayShown play frames _ = ⊥

abbrev pub IsShownAfter : PlayJob → Result Inputs Status → SinkChange → Outcome → Type 0
IsShownAfter job (Err refusal) frames outcome =
    ((outcome ≡ Ended refusal) ⊎ (outcome ≡ out_of_memory)) × Keeps frames.before.held frames.now.held × (frames.now.asked ≡ frames.before.asked)
IsShownAfter job (Ok inputs) frames outcome = IsPlayable (view_of job inputs) × IsPlayShown (view_of job inputs) frames outcome

-- A play before anything is reported.
pub record IsPlayWorked (told : List ℕ → Told) (log : FetchChange) (job : PlayJob) (script : ScriptSource) (fonts : List (List ℕ)) (frames : SinkChange) (outcome : Outcome) : Type 0 where
  pub reading : Result Inputs Status
  pub read : IsPlayRead told job script fonts reading
  pub fetched : IsPlayFetched job script fonts log reading
  pub shown : IsShownAfter job reading frames outcome

-- the script of what was read
abbrev pub script_alone : Result Inputs Status → Result ScriptValue Status
script_alone (Ok inputs) = Ok inputs.script
script_alone (Err refusal) = Err refusal

-- The script came to these inputs with the font of a selftest, or memory ran out.
abbrev pub IsWithFont : ScriptValue → Result Inputs Status → Type 0
IsWithFont script (Ok inputs) = (inputs.script ≡ script) × (inputs.fonts ≡ selftest_fonts) × IsLayoutFontSet inputs.fonts
IsWithFont script (Err refusal) = refusal ≡ OutOfMemory

-- What a selftest works on.
pub record AreSelftestInputs (inputs : Inputs) : Type 0 where
  pub script : IsScript inputs.script
  pub short : All (λ line. length line ≤ max_file_bytes) inputs.script.lines
  pub fonts : inputs.fonts ≡ selftest_fonts
  pub few_fonts : IsLayoutFontSet inputs.fonts

-- What is to be reported of a selftest whose play ended so and put these images.
abbrev pub IsSummedBy : SummaryText → ℕ → ℕ → List ℕ → PlayEnd → Outcome → Type 0
IsSummedBy write seed events images (play_end.Done report) (Found text) =
    string_bytes text ≡ write seed events (length (accepted_first report)) report.frames (digest_after 0 images)
IsSummedBy write seed events images (play_end.Done report) outcome = outcome ≡ out_of_memory
IsSummedBy write seed events images play_end.WriteFault outcome = ⊥
IsSummedBy write seed events images play_end.OutOfMemory outcome = outcome ≡ out_of_memory

-- A selftest before anything is reported.
pub record IsSelftestWorkedBy (write : SummaryText) (seed events : ℕ) (outcome : Outcome) : Type 0 where
  pub reading : Result ScriptValue Status
  pub read : IsSelftestRead seed events reading
  pub answered : IsOrFault Report (status_read reading) (status_if_put outcome)
  pub text : status_if_put outcome ≡ Done → IsSelftestReportBy write seed events reading (text_to_report outcome)
  pub own : SuitsSink Report outcome

abbrev pub IsSelftestWorked : ℕ → ℕ → Outcome → Type 0
IsSelftestWorked = IsSelftestWorkedBy summary_text

-- `calm` leaves the job: threads wait for one another in it, or the program tells of itself.
abbrev pub IsLeftByCalm : Job → Type 0
IsLeftByCalm (Play play script fonts) = Unit {0}
IsLeftByCalm (Selftest seed events workers) = Unit {0}
IsLeftByCalm Help = Unit {0}
IsLeftByCalm Version = Unit {0}
IsLeftByCalm _ = ⊥

-- Such a job before anything is reported.
abbrev pub IsJobWorked : (List ℕ → Told) → FetchChange → Job → SinkChange → Outcome → Type 0
IsJobWorked told log (Play play script fonts) frames outcome = IsPlayWorked told log play script fonts frames outcome
IsJobWorked told log (Selftest seed events workers) frames outcome = IsSelftestWorked seed events outcome
IsJobWorked told log Help frames outcome = IsTextWorked HELP.now frames outcome
IsJobWorked told log Version frames outcome = IsTextWorked VERSION.now frames outcome
IsJobWorked told log _ frames outcome = ⊥
