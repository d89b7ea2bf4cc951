-- Public: how the end of a run is told in each form (docs/PROGRAM.md).
use Rattle.std.specs.Prelude.{◌≡◌, ◌≢◌, ◌⊎◌, ℕ, List, [], string_bytes}
use Rattle.ass_io.specs.Sinks.{IsPutAnswered, SinkState}
use Rattle.ass_io.specs.declared.sink.Put.{Put}
use Rattle.ass_io.specs.declared.sink.Put.TheVariants as put
use Rattle.run_status.specs.Endings.{ending_json, ending_line, memory_ending}
use Rattle.run_status.specs.declared.ending.Ending.{Ending}
use Rattle.run_status.specs.declared.ending.Ending.TheVariants.{As, ClosedQuietly}
use Rattle.run_status.specs.declared.status.Status.TheVariants.{Done, WriteFault}
use Rattle.run_status.specs.declared.status.Which.TheVariants.{Report}
use Rattle.run_words.specs.declared.report_words.ReportForm.{ReportForm}
use Rattle.run_words.specs.declared.report_words.ReportForm.TheVariants.{Text, Json, Silent}
use Rattle.run_reports.specs.declared.tale.Tale.{Tale}
use Rattle.run_reports.specs.declared.tale.Tale.TheVariants.{Ends, Found}

-- what is said of an end
abbrev pub said : ReportForm → Ending → List ℕ
said Text ending = ending_line ending
said Json ending = ending_json ending
said Silent ending = []

-- how a run ends that is told whole
abbrev pub tale_ending : Tale → Ending
tale_ending (Found text) = As Done
tale_ending (Ends ending) = ending

-- how it ends where the report failed
abbrev pub cut_ending : Tale → Ending
cut_ending (Found text) = As (WriteFault Report)
cut_ending (Ends ending) = ending

-- the piece by which it is told
abbrev pub tale_piece : ReportForm → Tale → List ℕ
tale_piece form (Found text) = string_bytes text
tale_piece form (Ends ending) = said form ending

-- Memory ran out. The report was asked to put the line that says so, and answered whatever.
abbrev pub IsMemorySaid : ReportForm → SinkState → SinkState → Ending → Type 0
IsMemorySaid form old new ending = (answer : Put) × IsPutAnswered (said form memory_ending) answer old new × (ending ≡ memory_ending)

-- The report was asked to put this piece, and memory ran out for that.
abbrev pub IsMemoryWanting : ReportForm → List ℕ → SinkState → SinkState → Ending → Type 0
IsMemoryWanting form piece old new ending = (middle : SinkState) × IsPutAnswered piece put.OutOfMemory old middle × IsMemorySaid form middle new ending

-- The report was asked to put the piece, and answered so.
abbrev pub IsPieceTold : ReportForm → Tale → Put → SinkState → SinkState → Ending → Type 0
IsPieceTold form tale put.Done old new ending = IsPutAnswered (tale_piece form tale) put.Done old new × (ending ≡ tale_ending tale)
IsPieceTold form tale put.Failed old new ending = IsPutAnswered (tale_piece form tale) put.Failed old new × (ending ≡ cut_ending tale)
IsPieceTold form tale put.OutOfMemory old new ending = IsMemoryWanting form (tale_piece form tale) old new ending

-- By one put it was told what the run came to. Where memory ran out before there was a line, that was told.
abbrev pub IsTaleTold : ReportForm → Tale → SinkState → SinkState → Ending → Type 0
IsTaleTold form (Found text) old new ending = (answer : Put) × IsPieceTold form (Found text) answer old new ending
IsTaleTold form (Ends end) old new ending = ((answer : Put) × IsPieceTold form (Ends end) answer old new ending) ⊎ IsMemorySaid form old new ending

-- The same, but that nothing is told of an end that is to be quiet.
abbrev pub IsToldAloud : ReportForm → Tale → SinkState → SinkState → Ending → Type 0
IsToldAloud form (Ends ClosedQuietly) old new ending = (new ≡ old) × (ending ≡ ClosedQuietly)
IsToldAloud form tale old new ending = IsTaleTold form tale old new ending

-- What a run that was done whole came to, whose report is this text: that was found, or memory ran out for it. The silent form takes none.
abbrev pub IsReportTale : ReportForm → List ℕ → Tale → Type 0
IsReportTale form text (Found found) = string_bytes found ≡ text
IsReportTale form text (Ends end) = (form ≢ Silent) × (end ≡ memory_ending)

-- A run that came to this was told: nothing in the silent form.
abbrev pub IsTold : ReportForm → Tale → SinkState → SinkState → Ending → Type 0
IsTold Text tale old new ending = IsToldAloud Text tale old new ending
IsTold Json tale old new ending = IsToldAloud Json tale old new ending
IsTold Silent tale old new ending = (new ≡ old) × (ending ≡ tale_ending tale)
