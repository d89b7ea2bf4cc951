-- Public: a whole run of a play.
use Rattle.std.proofs.Common.{inl, inr}
use Rattle.std.specs.Prelude.{◌≡◌, ◌⊎◌, Bool, ◌&&◌, if◌then◌else◌, nat_le, nat_lt, ℕ, ◌≤◌, List, [], ◌∷◌, ◌++◌, length, take, Option, Some, None, Result, Ok, Err}
use Rattle.std.specs.Io.KnownBytes.{Appends, Keeps}
use Rattle.std.specs.List.{flat_map}
use Rattle.ass_io.specs.Fetched.{Told}
use Rattle.ass_io.specs.Fetches.{FetchChange}
use Rattle.ass_io.specs.Written.{AppendsFront}
use Rattle.ass_num.specs.Causes.{Rose}
use Rattle.bdf_font.specs.Limits.{max_fonts}
use Rattle.single_run.specs.Outcomes.{ArePiecesTold, AreSomeTold, IsLineReported, IsMemoryReported, IsOrMemory, IsReported}
use Rattle.single_run.specs.Runs.{SinkChange}
use Rattle.run_status.specs.Fetches.{AreFetched}
use Rattle.run_status.specs.Inputs.{AreRead}
use Rattle.run_status.specs.Laws.{AreTold, IsReadDecided}
use Rattle.run_status.specs.declared.inputs.Inputs.{Inputs}
use Rattle.play_model.specs.Heads.{play_head}
use Rattle.play_model.specs.Outputs.{IsFrontOfPlay}
use Rattle.play_model.specs.Plays.{IsPlayable, PlayView}
use Rattle.play_report.specs.Reports.{report_text}
use Rattle.play_report.specs.declared.report.PlayReport.{PlayReport}
use Rattle.play_rounds.specs.Outputs.{IsWholePlay}
use Rattle.play_shares.specs.Instants.{frame_count}
use Rattle.play_shares.specs.Limits.{max_frames}
use Rattle.run_words.specs.declared.job.PlayJob.{PlayJob}
use Rattle.run_words.specs.declared.job.WordsFault.TheVariants.{Usage}
use Rattle.run_status.specs.Statuses.{status_line}
use Rattle.run_status.specs.declared.status.Status.{Status}
use Rattle.run_status.specs.declared.status.Status.TheVariants.{BadWords, Done, OutOfMemory, TooLarge, WriteFault}
use Rattle.run_status.specs.declared.status.What.TheVariants.{Frames as images}
use Rattle.run_status.specs.declared.status.Which.TheVariants.{Frames, Report}
use Rattle.run_words.specs.declared.job.ScriptSource.{ScriptSource}

-- a job with what was read for it
abbrev pub view_of : PlayJob → Inputs → PlayView
view_of job inputs = record { job = job; script = inputs.script; fonts = inputs.fonts }

-- whether a play has too many images; too many fonts are told before
abbrev pub has_too_many : PlayJob → List (List ℕ) → Bool
has_too_many job fonts = nat_le (length fonts) max_fonts && nat_lt max_frames (frame_count job)

-- why a play is refused before any file is fetched: it has too many images, or no font, which words always name
abbrev pub play_refusal : PlayJob → List (List ℕ) → Option Status
play_refusal job [] = Some (BadWords Usage)
play_refusal job fonts = if has_too_many job fonts then Some (TooLarge images max_frames) else None

abbrev pub AreReadUnless : Option Status → (List ℕ → Told) → ScriptSource → List (List ℕ) → Result Inputs Status → Type 0
AreReadUnless (Some refusal) told script fonts answer = answer ≡ Err refusal
AreReadUnless None told script fonts answer = AreRead told script fonts answer

-- What reading the files of a play answers.
abbrev pub IsPlayRead : (List ℕ → Told) → PlayJob → ScriptSource → List (List ℕ) → Result Inputs Status → Type 0
IsPlayRead told job script fonts answer = AreReadUnless (play_refusal job fonts) told script fonts answer

abbrev pub AreFetchedUnless : Option Status → ScriptSource → List (List ℕ) → FetchChange → Result Inputs Status → Type 0
AreFetchedUnless (Some refusal) script fonts log answer = (log.now ≡ log.before) × (answer ≡ Err refusal)
AreFetchedUnless None script fonts log answer = AreFetched script fonts log answer

-- What fetching the files of a play gave asks for the answer. None was fetched where the play is refused for its images.
abbrev pub IsPlayFetched : PlayJob → ScriptSource → List (List ℕ) → FetchChange → Result Inputs Status → Type 0
IsPlayFetched job script fonts log answer = AreFetchedUnless (play_refusal job fonts) script fonts log answer

-- A play that was whole: the bytes of its images, and its report.
pub record IsPlayOutput (play : PlayView) (bytes text : List ℕ) : Type 0 where
  pub report : PlayReport
  pub whole : IsWholePlay play bytes report
  pub value : text ≡ report_text report

-- the bytes of the head of its video, if it is one
abbrev pub play_head_bytes : PlayView → List ℕ
play_head_bytes play = flat_map (λ piece. piece) (play_head play)

-- What a whole play puts to the frames sink: the head, and then its images.
pub record IsStreamOutput (play : PlayView) (bytes text : List ℕ) : Type 0 where
  pub shown : List ℕ
  pub output : IsPlayOutput play shown text
  pub value : bytes ≡ play_head_bytes play ++ shown

abbrev pub output_pieces : (play : PlayView) (bytes text : List ℕ) → IsStreamOutput play bytes text → List (List ℕ)
output_pieces play bytes text stream = play_head play ++ stream.output.whole.shown.images

-- It stopped at its head, of which a prefix was put.
pub record IsHeadFront (play : PlayView) (bytes : List ℕ) : Type 0 where
  pub count : ℕ
  pub rest : List ℕ
  pub value : flat_map (λ piece. piece) (take count (play_head play)) ≡ bytes ++ rest

-- It stopped behind its head.
pub record IsImagesFront (play : PlayView) (bytes : List ℕ) : Type 0 where
  pub shown : List ℕ
  pub front : IsFrontOfPlay play shown
  pub value : bytes ≡ play_head_bytes play ++ shown

-- What a play has put before it stopped.
abbrev pub IsStreamFront : PlayView → List ℕ → Type 0
IsStreamFront play bytes = IsHeadFront play bytes ⊎ IsImagesFront play bytes

abbrev pub front_pieces : (play : PlayView) (bytes : List ℕ) → IsStreamFront play bytes → List (List ℕ)
front_pieces play bytes (inl head) = take head.count (play_head play)
front_pieces play bytes (inr behind) = play_head play ++ behind.front.images

-- What it has put where memory ran out: the first pieces, or all.
abbrev pub IsEarlyOutput : PlayView → List ℕ → Type 0
IsEarlyOutput play bytes = IsStreamFront play bytes ⊎ ((text : List ℕ) × IsStreamOutput play bytes text)

abbrev pub early_pieces : (play : PlayView) (bytes : List ℕ) → IsEarlyOutput play bytes → List (List ℕ)
early_pieces play bytes (inl front) = front_pieces play bytes front
early_pieces play bytes (inr (text, stream)) = output_pieces play bytes text stream

-- The text is a report of the whole play.
abbrev pub IsPlayText : PlayView → List ℕ → Type 0
IsPlayText play text = (bytes : List ℕ) × IsPlayOutput play bytes text

-- What the sinks got of a play at each status, and the pieces that they were asked to put: all; a prefix of what may be shown; all that is shown, and a prefix of the report; or a prefix of both.
abbrev pub IsPlayPut : PlayView → SinkChange → SinkChange → Status → Type 0
IsPlayPut play frames report Done =
    (bytes text : List ℕ) × (stream : IsStreamOutput play bytes text) × Appends frames.before.held frames.now.held bytes
    × Appends report.before.held report.now.held text × (report.now.faults ≡ report.before.faults)
    × (frames.now.asked ≡ frames.before.asked ++ output_pieces play bytes text stream) × (report.now.asked ≡ report.before.asked ++ text ∷ [])
IsPlayPut play frames report (WriteFault Frames) =
    (bytes : List ℕ) × (front : IsStreamFront play bytes) × Appends frames.before.held frames.now.held bytes
    × IsLineReported (WriteFault Frames) report.before.held report.now.held report.before.faults report.now.faults
    × (frames.now.asked ≡ frames.before.asked ++ front_pieces play bytes front) × (report.now.asked ≡ report.before.asked ++ status_line (WriteFault Frames) ∷ [])
IsPlayPut play frames report (WriteFault Report) =
    (bytes text : List ℕ) × (stream : IsStreamOutput play bytes text) × Appends frames.before.held frames.now.held bytes
    × AppendsFront report.before.held report.now.held text × Rose report.before.faults report.now.faults × (report.before.faults ≤ report.now.faults)
    × (frames.now.asked ≡ frames.before.asked ++ output_pieces play bytes text stream) × (report.now.asked ≡ report.before.asked ++ text ∷ [])
IsPlayPut play frames report OutOfMemory =
    (bytes : List ℕ) × (early : IsEarlyOutput play bytes) × Appends frames.before.held frames.now.held bytes
    × IsMemoryReported report.before.held report.now.held report.before.faults report.now.faults
    × (frames.now.asked ≡ frames.before.asked ++ early_pieces play bytes early) × AreSomeTold (IsPlayText play) report.before.asked report.now.asked
IsPlayPut play frames report _ = ⊥

-- What they got after an answer about the files. A play whose files are read is within its limits.
abbrev pub IsPlayAsked : PlayJob → Result Inputs Status → SinkChange → SinkChange → Status → Type 0
IsPlayAsked job (Err refusal) frames report status =
    IsOrMemory refusal status × Keeps frames.before.held frames.now.held
    × IsReported status report.before.held report.now.held report.before.faults report.now.faults (λ text. text ≡ [])
    × (frames.now.asked ≡ frames.before.asked) × ArePiecesTold Report status (λ text. text ≡ []) report.before.asked report.now.asked
IsPlayAsked job (Ok inputs) frames report status = IsPlayable (view_of job inputs) × IsPlayPut (view_of job inputs) frames report status

-- A run of a play. Its files are read with one answer, as far as it is told what they hold, and as what they gave when they were fetched; that answer asks for the status, for what the sinks may get, and for the pieces that they are asked to put.
pub record IsPlayRun (told : List ℕ → Told) (log : FetchChange) (job : PlayJob) (script : ScriptSource) (fonts : List (List ℕ)) (frames report : SinkChange) (status : Status) : Type 0 where
  pub reading : Result Inputs Status
  pub read : IsPlayRead told job script fonts reading
  pub fetched : IsPlayFetched job script fonts log reading
  pub asked : IsPlayAsked job reading frames report status

-- the status that an answer about the files asks for
abbrev pub status_read : {Value : Type 0} → Result Value Status → Status
status_read (Ok value) = Done
status_read (Err refusal) = refusal

-- Files that are all told of decide a run where no fault came: the answer that their reading asks for, or out of memory.
abbrev pub DecidesPlay : (List ℕ → Told) → PlayJob → ScriptSource → List (List ℕ) → Status → Type 0
DecidesPlay told job script fonts status =
    (reading : Result Inputs Status) → AreTold told script fonts → IsPlayRead told job script fonts reading → IsReadDecided reading
    → IsOrMemory (status_read reading) status
