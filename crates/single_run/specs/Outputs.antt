-- Public: what a job may put to the two sinks.
use Rattle.std.specs.Prelude.{◌≡◌, ◌⊎◌, ℕ, List, [], ◌++◌, Option, Result, Ok, Err}
use Rattle.std.specs.Io.KnownBytes.{Keeps}
use Rattle.ass_script.specs.Scripts.{ScriptValue}
use Rattle.ass_events.specs.declared.event.Event.{Event}
use Rattle.single_run.specs.ChangeReports.{IsChangesReport}
use Rattle.single_run.specs.CheckReports.{check_text}
use Rattle.frame_images.specs.FrameImages.{IsFormattedImage}
use Rattle.run_status.specs.declared.inputs.Inputs.{Inputs}
use Rattle.run_status.specs.declared.status.Status.{Status}
use Rattle.run_status.specs.declared.status.Status.TheVariants as status
use Rattle.run_status.specs.declared.status.Which.{Which}
use Rattle.run_status.specs.declared.status.Which.TheVariants as sink
use Rattle.ass_events.specs.ScriptEvents.{line_events}
use Rattle.track_write.specs.Shifts.{shifted}
use Rattle.track_write.specs.Texts.{written}
use Rattle.track_write.specs.declared.refusal.WriteRefusal.{WriteRefusal}
use Rattle.track_write.specs.declared.refusal.WriteRefusal.TheVariants.{OutOfMemory, Unwritable}
use Rattle.run_words.specs.declared.job.StillsJob.{StillsJob}
use Rattle.still_images.specs.Stills.{Still, StillsView, still_images, stills_view}
use Rattle.single_run.specs.Outcomes.{ArePiecesShown, IsOrFault, IsShown, SuitsSink}
use Rattle.single_run.specs.StillOutputs.{AreImagesHeld, AreStillsKept, IsIndexOf, SuitsStills}
use Rattle.single_run.specs.declared.outcome.Outcome.{Outcome}
use Rattle.single_run.specs.declared.work.Task.{Task}
use Rattle.single_run.specs.declared.work.Task.TheVariants.{Changes, Check, Frame, Stills, Write}
use Rattle.single_run.specs.declared.work.WriteTask.{WriteTask}

-- the text of a script with events, where they are some
abbrev pub written_with : ScriptValue → Result (List Event) WriteRefusal → Result (List ℕ) WriteRefusal
written_with script (Ok events) = written script events
written_with script (Err refusal) = Err refusal

-- a script written again with its events so much later and so much earlier, or the first event that can't be written so, with its first such field
abbrev pub rewritten : WriteTask → ScriptValue → Result (List ℕ) WriteRefusal
rewritten write script = written_with script (shifted write.later write.earlier (line_events script))

abbrev pub written_status : Result (List ℕ) WriteRefusal → Status
written_status (Ok text) = status.Done
written_status (Err (Unwritable order field)) = status.Unwritable order field
written_status (Err OutOfMemory) = status.OutOfMemory

-- the status that a task with its inputs asks for
abbrev pub task_status : Task → Inputs → Status
task_status (Write write) inputs = written_status (rewritten write inputs.script)
task_status _ inputs = status.Done

abbrev pub kept_view : StillsJob → Inputs → StillsView
kept_view stills inputs = stills_view stills inputs.script inputs.fonts

-- The pictures that a job keeps: those of a play of only what changes, and none of any other.
abbrev pub AreKeptOf : Task → Result Inputs Status → Status → List Still → Type 0
AreKeptOf (Stills stills) (Ok inputs) status kept = AreStillsKept (kept_view stills inputs) status kept
AreKeptOf (Stills stills) (Err refusal) status kept = kept ≡ []
AreKeptOf task reading status kept = kept ≡ []

-- What a task may put to the frames sink as one piece: a report nothing, a picture its image in its format, whatever the budget, and a script that is written again its text. Images of what is kept are pieces of their own.
abbrev pub IsFramesOf : Task → Inputs → List ℕ → Type 0
IsFramesOf Check inputs bytes = bytes ≡ []
IsFramesOf (Frame frame) inputs bytes = IsFormattedImage frame.format inputs.script inputs.fonts frame.at frame.view bytes
IsFramesOf (Changes changes) inputs bytes = bytes ≡ []
IsFramesOf (Stills stills) inputs bytes = ⊥
IsFramesOf (Write write) inputs bytes = rewritten write inputs.script ≡ Ok bytes

-- What a task may put to the report: what a check finds, what changes from picture to picture, whatever the budget, the index of what is kept, and else nothing.
abbrev pub IsReportOf : Task → Inputs → List Still → List ℕ → Type 0
IsReportOf Check inputs kept text = text ≡ check_text inputs.script inputs.fonts
IsReportOf (Frame frame) inputs kept text = text ≡ []
IsReportOf (Changes changes) inputs kept text = IsChangesReport inputs.script inputs.fonts changes.instants changes.view text
IsReportOf (Stills stills) inputs kept text = IsIndexOf (kept_view stills inputs) kept text
IsReportOf (Write write) inputs kept text = text ≡ []

-- the sink that gets what a task is for: of what is kept the report, behind the images
abbrev pub sink_of : Task → Which
sink_of Check = sink.Report
sink_of (Frame frame) = sink.Frames
sink_of (Changes changes) = sink.Report
sink_of (Stills stills) = sink.Report
sink_of (Write write) = sink.Frames

-- the status that an answer about the inputs asks for
abbrev pub status_asked : Task → Result Inputs Status → Status
status_asked task (Err refusal) = refusal
status_asked task (Ok inputs) = task_status task inputs

-- what may be put to the frames sink after it
abbrev pub IsFramesAsked : Task → Result Inputs Status → List ℕ → Type 0
IsFramesAsked task (Err refusal) bytes = bytes ≡ []
IsFramesAsked task (Ok inputs) bytes = IsFramesOf task inputs bytes

-- what may be put to the report after it where all is done
abbrev pub IsReportAsked : Task → Result Inputs Status → List Still → List ℕ → Type 0
IsReportAsked task (Err refusal) kept text = text ≡ []
IsReportAsked task (Ok inputs) kept text = IsReportOf task inputs kept text

-- The answer of a task is this one; out of memory may come in its place, and a fault of a sink that it puts to in the place of `Done`.
abbrev pub IsAnswerOf : Task → Status → Status → Type 0
IsAnswerOf (Stills stills) wanted answer = IsOrFault sink.Frames wanted answer ⊎ IsOrFault sink.Report wanted answer
IsAnswerOf task wanted answer = IsOrFault (sink_of task) wanted answer

-- What the frames sink got at each status.
abbrev pub IsShownOf : Task → Result Inputs Status → List Still → Status → Option (List ℕ) → Option (List ℕ) → Type 0
IsShownOf (Stills stills) (Ok inputs) kept status old new = AreImagesHeld (kept_view stills inputs) status kept old new
IsShownOf (Stills stills) (Err refusal) kept status old new = Keeps old new
IsShownOf task reading kept status old new = IsShown status old new (IsFramesAsked task reading)

-- The pieces that it was asked to put: of what is kept an image each.
abbrev pub ArePiecesOf : Task → Result Inputs Status → List Still → Status → List (List ℕ) → List (List ℕ) → Type 0
ArePiecesOf (Stills stills) (Ok inputs) kept status old new = new ≡ old ++ still_images (kept_view stills inputs) kept
ArePiecesOf (Stills stills) (Err refusal) kept status old new = new ≡ old
ArePiecesOf task reading kept status old new = ArePiecesShown (sink_of task) status (IsFramesAsked task reading) old new

-- A task has found something to report, or put all, where it was done whole, and has failed at no other's sink.
abbrev pub SuitsTask : Task → Outcome → Type 0
SuitsTask (Stills stills) outcome = SuitsStills outcome
SuitsTask task outcome = SuitsSink (sink_of task) outcome
