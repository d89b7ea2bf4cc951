-- Inner: what words ask for, where its report is to be told otherwise than by default.
use Rattle.std.specs.Prelude.{◌≡◌, ℕ, true, false, if◌then◌else◌, List, Option, Some, None, Ok}
use Rattle.run_words.specs.Jobs.{IsJob}
use Rattle.run_words.specs.ReportWords.{options_of}
use Rattle.run_words.specs.Words.{job_of}
use Rattle.run_words.specs.declared.job.Job.{Job}
use Rattle.run_words.specs.declared.report_words.ReportOptions.{ReportOptions}
use Rattle.run_reports.specs.AskedRuns.{asks_otherwise, reports}
use Rattle.run_reports.specs.declared.asked.AskedJob.{AskedJob}

-- The words ask for this job, whose report is to be told so.
pub record IsToldOtherwise (words : List (List ℕ)) (asked : AskedJob) : Type 0 where
  pub job : job_of words ≡ Ok asked.job
  pub options : asked.options ≡ options_of words
  pub otherwise : asks_otherwise (options_of words) (Ok asked.job) ≡ true
  pub reports : reports asked.job ≡ true
  pub within : IsJob asked.job

-- The words ask for that, or for a run by default.
abbrev pub IsAskedOtherwise : List (List ℕ) → Option AskedJob → Type 0
IsAskedOtherwise words (Some asked) = IsToldOtherwise words asked
IsAskedOtherwise words None = asks_otherwise (options_of words) (job_of words) ≡ false

-- the job with what is told of its report, where it reports
abbrev pub reported : Job → ReportOptions → Option AskedJob
reported job options = if reports job then Some (record { job = job; options = options }) else None
