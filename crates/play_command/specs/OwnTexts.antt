-- Public: what the program tells of itself.
use Rattle.std.specs.Prelude.{◌≡◌, ℕ, List, [], Option, Some, None}
use Rattle.run_words.specs.declared.job.Job.{Job}
use Rattle.run_words.specs.declared.job.Job.TheVariants.{Help, Version}
use Rattle.run_status.specs.declared.status.Status.{Status}
use Rattle.run_status.specs.declared.status.Status.TheVariants.{Done}
use Rattle.run_status.specs.declared.status.Which.TheVariants.{Frames}
use Rattle.single_run.specs.Outcomes.{ArePiecesShown, ArePiecesTold, IsOrFault, IsReported, IsShown, SuitsSink, status_if_put}
use Rattle.single_run.specs.Runs.{SinkChange}
use Rattle.single_run.specs.declared.outcome.Outcome.{Outcome}
use Rattle.play_command.specs.declared.help.TheConstants.{HELP}
use Rattle.play_command.specs.declared.own_text.TheConstants.{VERSION}

-- the text of the program itself that words ask for
abbrev pub own_text : Job → Option (List ℕ)
own_text Help = Some HELP.now
own_text Version = Some VERSION.now
own_text _ = None

-- The text was put before anything is reported.
pub record IsTextWorked (text : List ℕ) (frames : SinkChange) (outcome : Outcome) : Type 0 where
  pub answered : IsOrFault Frames Done (status_if_put outcome)
  pub shown : IsShown (status_if_put outcome) frames.before.held frames.now.held (λ bytes. bytes ≡ text)
  pub pieces : ArePiecesShown Frames (status_if_put outcome) (λ bytes. bytes ≡ text) frames.before.asked frames.now.asked
  pub own : SuitsSink Frames outcome

-- A run that tells the text: the frames sink gets it, by one put, and the report nothing but the line of a fault or of lack of memory.
pub record IsTextRun (text : List ℕ) (frames report : SinkChange) (status : Status) : Type 0 where
  pub answered : IsOrFault Frames Done status
  pub shown : IsShown status frames.before.held frames.now.held (λ bytes. bytes ≡ text)
  pub pieces_shown : ArePiecesShown Frames status (λ bytes. bytes ≡ text) frames.before.asked frames.now.asked
  pub reported : IsReported status report.before.held report.now.held report.before.faults report.now.faults (λ line. line ≡ [])
  pub pieces_told : ArePiecesTold Frames status (λ line. line ≡ []) report.before.asked report.now.asked
