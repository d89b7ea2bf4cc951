-- Public: a play whose files are right is done.
use Rattle.std.specs.Prelude.{ℕ, ◌<◌, ◌≤◌, List, length, Ok}
use Rattle.ass_io.specs.Fetched.{Told}
use Rattle.bdf_font.specs.Limits.{max_fonts}
use Rattle.single_run.specs.Outcomes.{IsOrMemory}
use Rattle.run_status.specs.Inputs.{AreFilesRead}
use Rattle.run_status.specs.Laws.{AreTold}
use Rattle.run_status.specs.declared.inputs.Inputs.{Inputs}
use Rattle.play_command.specs.PlayRuns.{DecidesPlay}
use Rattle.play_shares.specs.Instants.{frame_count}
use Rattle.play_shares.specs.Limits.{max_frames}
use Rattle.run_words.specs.declared.job.PlayJob.{PlayJob}
use Rattle.run_status.specs.declared.status.Status.{Status}
use Rattle.run_status.specs.declared.status.Status.TheVariants.{Done}
use Rattle.run_words.specs.declared.job.ScriptSource.{ScriptSource}

-- Files that are all told and are read, where there is a font and neither fonts nor images are too many: the run that they decide is done, or memory ran out.
abbrev pub PlaysAreDone : Type 0
PlaysAreDone =
    (told : List ℕ → Told) (job : PlayJob) (script : ScriptSource) (fonts : List (List ℕ)) (inputs : Inputs) (status : Status)
    → AreTold told script fonts → AreFilesRead told script fonts (Ok inputs)
    → 0 < length fonts → length fonts ≤ max_fonts → frame_count job ≤ max_frames
    → DecidesPlay told job script fonts status → IsOrMemory Done status
