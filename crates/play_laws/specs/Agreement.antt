-- Public: plays that put the same bytes.
use Rattle.std.specs.Prelude.{◌≡◌, ℕ, List, ◌++◌, Result}
use Rattle.std.specs.Io.KnownBytes.{Appends}
use Rattle.ass_events.specs.Histories.{Entry}
use Rattle.ass_io.specs.Fetched.{Told}
use Rattle.ass_io.specs.Fetches.{FetchChange}
use Rattle.ass_script.specs.Scripts.{ScriptValue}
use Rattle.single_run.specs.Runs.{SinkChange}
use Rattle.run_status.specs.Laws.{AreTold, IsReadDecided}
use Rattle.play_command.specs.PlayRuns.{IsPlayRun}
use Rattle.play_command.specs.SelftestRuns.{IsSelftestRead, IsSelftestReport}
use Rattle.play_model.specs.Outputs.{IsShownPlay}
use Rattle.play_model.specs.Plays.{IsPlayable, PlayView}
use Rattle.run_words.specs.declared.job.Mode.TheVariants.{Settled}
use Rattle.run_words.specs.declared.job.PlayJob.{PlayJob}
use Rattle.run_status.specs.declared.status.Status.{Status}
use Rattle.run_status.specs.declared.status.Status.TheVariants.{Done}
use Rattle.run_words.specs.declared.job.ScriptSource.{ScriptSource}

-- The jobs are of the same instants, as often, of the same size and in the same format. All else may differ.
pub record JobsAlike (one other : PlayJob) : Type 0 where
  pub instants : one.instants ≡ other.instants
  pub times : one.times ≡ other.times
  pub size : one.size ≡ other.size
  pub format : one.format ≡ other.format

-- The plays are of the same script and fonts, by such jobs.
pub record PlayAlike (one other : PlayView) : Type 0 where
  pub script : one.script ≡ other.script
  pub fonts : one.fonts ≡ other.fonts
  pub jobs : JobsAlike one.job other.job

abbrev pub SettledPlaysAgree : Type 0
SettledPlaysAgree =
    (one other : PlayView) (times more : List (List Entry)) (a b : List ℕ) → IsPlayable one → IsPlayable other → PlayAlike one other
    → one.job.mode ≡ Settled → other.job.mode ≡ Settled → IsShownPlay one times a → IsShownPlay other more b → a ≡ b

-- Two settled runs over the same files, of which it is told what they hold, by such jobs: where both are done, both sinks got the same bytes.
abbrev pub SettledRunsAgree : Type 0
SettledRunsAgree =
    (told : List ℕ → Told) (one_log other_log : FetchChange) (script : ScriptSource) (fonts : List (List ℕ)) (one other : PlayJob) (frames report more said : SinkChange)
    → AreTold told script fonts → JobsAlike one other → one.mode ≡ Settled → other.mode ≡ Settled
    → IsPlayRun told one_log one script fonts frames report Done → IsPlayRun told other_log other script fonts more said Done
    → (bytes : List ℕ) × Appends frames.before.held frames.now.held bytes × Appends more.before.held more.now.held bytes

-- What a settled run over such files has put before it ended in any way is a prefix of what each one puts that is done.
abbrev pub EarlyRunsAgree : Type 0
EarlyRunsAgree =
    (told : List ℕ → Told) (one_log other_log : FetchChange) (script : ScriptSource) (fonts : List (List ℕ)) (one other : PlayJob) (frames report more said : SinkChange) (status : Status)
    → AreTold told script fonts → JobsAlike one other → one.mode ≡ Settled → other.mode ≡ Settled
    → IsPlayRun told one_log one script fonts frames report status → IsPlayRun told other_log other script fonts more said Done
    → (front rest : List ℕ) × Appends frames.before.held frames.now.held front × Appends more.before.held more.now.held (front ++ rest)

-- A seed and a number of events have one report, of all readings of the generated script for which memory sufficed.
abbrev pub SelftestsAgree : Type 0
SelftestsAgree =
    (seed events : ℕ) (one other : Result ScriptValue Status) (a b : List ℕ) → IsSelftestRead seed events one → IsSelftestRead seed events other
    → IsReadDecided one → IsReadDecided other → IsSelftestReport seed events one a → IsSelftestReport seed events other b → a ≡ b
