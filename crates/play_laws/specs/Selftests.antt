-- Public: how selftests end, and what they report.
use Rattle.std.specs.Prelude.{◌≡◌, ℕ, List, Ok}
use Rattle.std.specs.Io.KnownBytes.{Appends}
use Rattle.single_run.specs.Outcomes.{IsOrFault}
use Rattle.single_run.specs.Runs.{SinkChange}
use Rattle.play_command.specs.SelftestRuns.{IsSelftestRun, image_count}
use Rattle.play_report.specs.Reports.{summary_text}
use Rattle.run_words.specs.Words.{job_of}
use Rattle.run_words.specs.declared.job.Job.TheVariants.{Selftest}
use Rattle.run_status.specs.declared.status.Status.{Status}
use Rattle.run_status.specs.declared.status.Status.TheVariants.{Done}
use Rattle.run_status.specs.declared.status.Which.TheVariants.{Report}

-- The generated script never refuses a selftest: it is done, or memory ran out, or its report failed.
abbrev pub SelftestsAreDone : Type 0
SelftestsAreDone =
    (words : List (List ℕ)) (seed events workers : ℕ) (report : SinkChange) (status : Status) → job_of words ≡ Ok (Selftest seed events workers)
    → IsSelftestRun seed events report status → IsOrFault Report Done status

-- Where it is done, the report says that each event was accepted.
abbrev pub SelftestsAcceptAll : Type 0
SelftestsAcceptAll =
    (words : List (List ℕ)) (seed events workers : ℕ) (report : SinkChange) → job_of words ≡ Ok (Selftest seed events workers)
    → IsSelftestRun seed events report Done
    → (digest : ℕ) × Appends report.before.held report.now.held (summary_text seed events events image_count digest)
