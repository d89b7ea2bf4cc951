-- Public: a run of the program, by its words.
use Rattle.std.specs.Prelude.{◌≡◌, ℕ, List, [], Some, Ok, Err}
use Rattle.std.specs.Io.KnownBytes.{Keeps}
use Rattle.ass_io.specs.Fetched.{Told}
use Rattle.ass_io.specs.Fetches.{FetchChange}
use Rattle.run_status.specs.declared.status.Status.{Status}
use Rattle.run_words.specs.Words.{job_of}
use Rattle.run_words.specs.declared.job.Job.{Job}
use Rattle.run_words.specs.declared.job.Job.TheVariants.{Play, Selftest}
use Rattle.run_words.specs.declared.job.PlayJob.{PlayJob}
use Rattle.single_run.specs.Outcomes.{ArePiecesFinished, IsOrMemory, IsReported}
use Rattle.single_run.specs.declared.outcome.Outcome.TheVariants.{Ended}
use Rattle.single_run.specs.Runs.{IsJobRun, SinkChange}
use Rattle.single_run.specs.Works.{work_asked}
use Rattle.single_run.specs.declared.work.Work.{Work}
use Rattle.play_command.specs.OwnTexts.{IsTextRun, own_text}
use Rattle.play_command.specs.PlayRuns.{IsPlayRun}
use Rattle.play_command.specs.SelftestRuns.{IsSelftestRun}
use Rattle.run_words.specs.declared.job.ScriptSource.{ScriptSource}

-- The words were refused, no file was fetched, nothing was shown, and the report got no more than a line.
pub record IsRefusedRun (why : Status) (log : FetchChange) (frames report : SinkChange) (status : Status) : Type 0 where
  pub answered : IsOrMemory why status
  pub fetched : log.now ≡ log.before
  pub shown : Keeps frames.before.held frames.now.held
  pub reported : IsReported status report.before.held report.now.held report.before.faults report.now.faults (λ text. text ≡ [])
  pub pieces_shown : frames.now.asked ≡ frames.before.asked
  pub pieces_told : ArePiecesFinished (Ended why) status report.before.asked report.now.asked

-- A run that ended with this status: what the words ask for was done, or they were refused.
pub record IsRunOfWords (told : List ℕ → Told) (log : FetchChange) (words : List (List ℕ)) (frames report : SinkChange) (status : Status) : Type 0 where
  pub refused : (why : Status) → work_asked words ≡ Err why → IsRefusedRun why log frames report status
  pub work : (work : Work) → work_asked words ≡ Ok (Some work) → IsJobRun told log work frames report status
  pub play : (job : PlayJob) (script : ScriptSource) (fonts : List (List ℕ)) → job_of words ≡ Ok (Play job script fonts)
      → IsPlayRun told log job script fonts frames report status
  pub selftest : (seed events workers : ℕ) → job_of words ≡ Ok (Selftest seed events workers) → IsSelftestRun seed events report status
  pub selftest_fetched : (seed events workers : ℕ) → job_of words ≡ Ok (Selftest seed events workers) → log.now ≡ log.before
  pub text : (job : Job) (text : List ℕ) → job_of words ≡ Ok job → own_text job ≡ Some text → IsTextRun text frames report status
  pub text_fetched : (job : Job) (text : List ℕ) → job_of words ≡ Ok job → own_text job ≡ Some text → log.now ≡ log.before
