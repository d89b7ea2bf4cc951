-- Public: plays of only what changes, and how they are told (docs/PROGRAM.md).
use Rattle.std.specs.Prelude.{◌≡◌, ◌⊎◌, ℕ, List, [], codes, Option, Some, None, Result, Ok, Err}
use Rattle.ass_io.specs.Sinks.{IsPutAnswered, SinkState}
use Rattle.ass_io.specs.declared.sink.Put.{Put}
use Rattle.ass_io.specs.declared.sink.Put.TheVariants as put
use Rattle.run_status.specs.Endings.{memory_ending}
use Rattle.run_status.specs.declared.ending.Ending.{Ending}
use Rattle.run_status.specs.declared.ending.Ending.TheVariants.{ListFault}
use Rattle.run_words.specs.declared.job.FrameFormat.{FrameFormat}
use Rattle.run_words.specs.declared.job.FrameFormat.TheVariants.{Ppm, Pam, Rgba}
use Rattle.run_words.specs.declared.job.StillsJob.{StillsJob}
use Rattle.run_words.specs.declared.report_words.ReportForm.{ReportForm}
use Rattle.run_words.specs.declared.report_words.ReportForm.TheVariants.{Text, Json, Silent}
use Rattle.single_run.specs.Runs.{SinkChange}
use Rattle.still_images.specs.Puts.{AreStillsListed}
use Rattle.still_images.specs.Stills.{StillsView, end_instant}
use Rattle.still_images.specs.declared.fault.StillsFault.{StillsFault}
use Rattle.still_images.specs.declared.fault.StillsFault.TheVariants as why
use Rattle.still_lists.specs.ConcatLists.{concat_text}
use Rattle.still_lists.specs.JsonIndexes.{json_index}
use Rattle.still_lists.specs.TextIndexes.{words_index}
use Rattle.still_lists.specs.declared.entry.StillEntry.{StillEntry}
use Rattle.run_reports.specs.Telling.{IsReportTale, IsTold}
use Rattle.run_reports.specs.declared.tale.Tale.{Tale}
use Rattle.run_reports.specs.declared.tale.Tale.TheVariants.{Ends}

-- the index in a form
abbrev pub index_in : ReportForm → List StillEntry → ℕ → ℕ → List ℕ
index_in Text entries count end = words_index entries count end
index_in Json entries count end = json_index entries count end
index_in Silent entries count end = []

-- what files of images in a format end with
abbrev pub format_name : FrameFormat → List ℕ
format_name Ppm = codes "ppm"
format_name Pam = codes "pam"
format_name Rgba = codes "rgba"

-- the list for ffmpeg
abbrev pub list_of : StillsJob → List StillEntry → List ℕ
list_of job entries = concat_text (format_name job.format) entries (end_instant job.instants)

-- The list was put to its file with this answer, or memory ran out for it.
abbrev pub IsListAnswered : StillsJob → List StillEntry → Put → SinkState → SinkState → Type 0
IsListAnswered job entries answer old new = IsPutAnswered (list_of job entries) answer old new ⊎ ((answer ≡ put.OutOfMemory) × (new ≡ old))

-- So it was where it is wanted.
abbrev pub IsListPut : Option (List ℕ) → StillsJob → List StillEntry → Put → SinkState → SinkState → Type 0
IsListPut None job entries answer old new = (answer ≡ put.Done) × (new ≡ old)
IsListPut (Some name) job entries answer old new = IsListAnswered job entries answer old new

-- What the play came to after that.
abbrev pub IsListedTale : ReportForm → StillsJob → List StillEntry → Put → Tale → Type 0
IsListedTale form job entries put.Done tale = IsReportTale form (index_in form entries job.instants.count (end_instant job.instants)) tale
IsListedTale form job entries put.Failed tale = tale ≡ Ends ListFault
IsListedTale form job entries put.OutOfMemory tale = tale ≡ Ends memory_ending

-- What the play came to whose images ended so.
abbrev pub IsStillsTale : ReportForm → Ending → Option (List ℕ) → StillsJob → SinkChange → Result (List StillEntry) StillsFault → Tale → Type 0
IsStillsTale form fault list job index (Ok entries) tale =
    (answer : Put) × IsListPut list job entries answer index.before index.now × IsListedTale form job entries answer tale
IsStillsTale form fault list job index (Err why.WriteFault) tale = (index.now ≡ index.before) × (tale ≡ Ends fault)
IsStillsTale form fault list job index (Err why.OutOfMemory) tale = (index.now ≡ index.before) × (tale ≡ Ends memory_ending)

-- A play of only what changes was told.
pub record AreStillsTold (form : ReportForm) (fault : Ending) (list : Option (List ℕ)) (view : StillsView) (frames index : SinkChange) (old new : SinkState) (ending : Ending) : Type 0 where
  pub end : Result (List StillEntry) StillsFault
  pub shown : AreStillsListed view end frames.before frames.now
  pub tale : Tale
  pub came : IsStillsTale form fault list view.job index end tale
  pub told : IsTold form tale old new ending
