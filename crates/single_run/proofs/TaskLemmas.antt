-- What each task with its inputs has put, and what it is to report.
use Rattle.std.proofs.Common.{◌≡◌, [], Ok, refl}
use Rattle.ass_io.specs.Sinks.{SinkState}
use Rattle.run_status.specs.declared.inputs.Inputs.{Inputs}
use Rattle.run_status.specs.declared.status.Status.{Status}
use Rattle.run_status.specs.declared.status.Status.TheVariants.{Done}
use Rattle.run_status.specs.declared.status.Which.TheVariants.{Frames, Report}
use Rattle.run_words.specs.declared.job.ChangesJob.{ChangesJob}
use Rattle.run_words.specs.declared.job.FrameJob.{FrameJob}
use Rattle.single_run.specs.ChangeReports.{IsChangesReport}
use Rattle.single_run.specs.CheckReports.{check_text}
use Rattle.single_run.specs.Outcomes.{ArePiecesShown, IsShown, SuitsSink, status_if_put, text_to_report}
use Rattle.single_run.specs.Outputs.{IsFramesAsked}
use Rattle.single_run.specs.Runs.{IsTaskDone, sink_change}
use Rattle.single_run.specs.declared.outcome.Outcome.{Outcome}
use Rattle.single_run.specs.declared.outcome.Outcome.TheVariants.{Ended}
use Rattle.single_run.specs.declared.work.Task.TheVariants.{Changes, Check, Frame, Write}
use Rattle.single_run.specs.declared.work.WriteTask.{WriteTask}
use Rattle.single_run.proofs.PieceLemmas.{none_shown}
use Rattle.single_run.proofs.Runs.{shown_none}

-- ---- for the report: the frames sink gets nothing

module _ (inputs : Inputs) (state : SinkState) (outcome : Outcome) (own : SuitsSink Report outcome) where
  pub check_done : (status_if_put outcome ≡ Done → text_to_report outcome ≡ check_text inputs.script inputs.fonts) → IsTaskDone Check (Ok inputs) (sink_change state state) outcome
  check_done text = record {
    kept = [];
    are_kept = refl;
    shown = shown_none (status_if_put outcome) state.held (IsFramesAsked Check (Ok inputs)) refl;
    pieces = none_shown outcome (IsFramesAsked Check (Ok inputs)) state.asked own;
    text = text;
  }

  pub changes_done : (changes : ChangesJob) → (status_if_put outcome ≡ Done → IsChangesReport inputs.script inputs.fonts changes.instants changes.view (text_to_report outcome))
      → IsTaskDone (Changes changes) (Ok inputs) (sink_change state state) outcome
  changes_done changes text = record {
    kept = [];
    are_kept = refl;
    shown = shown_none (status_if_put outcome) state.held (IsFramesAsked (Changes changes) (Ok inputs)) refl;
    pieces = none_shown outcome (IsFramesAsked (Changes changes) (Ok inputs)) state.asked own;
    text = text;
  }

-- ---- for the frames sink: nothing is to be reported

module _ (inputs : Inputs) (old new : SinkState) (status : Status) where
  pub frame_done : (frame : FrameJob) → IsShown status old.held new.held (IsFramesAsked (Frame frame) (Ok inputs))
      → ArePiecesShown Frames status (IsFramesAsked (Frame frame) (Ok inputs)) old.asked new.asked → IsTaskDone (Frame frame) (Ok inputs) (sink_change old new) (Ended status)
  frame_done frame shown pieces = record { kept = []; are_kept = refl; shown = shown; pieces = pieces; text = λ done. refl }

  pub write_done : (write : WriteTask) → IsShown status old.held new.held (IsFramesAsked (Write write) (Ok inputs))
      → ArePiecesShown Frames status (IsFramesAsked (Write write) (Ok inputs)) old.asked new.asked → IsTaskDone (Write write) (Ok inputs) (sink_change old new) (Ended status)
  write_done write shown pieces = record { kept = []; are_kept = refl; shown = shown; pieces = pieces; text = λ done. refl }
