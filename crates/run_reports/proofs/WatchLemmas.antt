-- What there is to watch of a run.
use Rattle.std.proofs.Common.{◌≡◌, ◌∙◌, ℕ, Bool, true, false, not, ◌&&◌, if◌then◌else◌, List, None, is_some, Result, Ok, Err, ap, refl, sym}
use Rattle.run_words.specs.ReportWords.{is_plain, options_of}
use Rattle.run_words.specs.Words.{job_of}
use Rattle.run_words.specs.declared.job.Job.{Job}
use Rattle.run_words.specs.declared.job.Job.TheVariants as job
use Rattle.run_words.specs.declared.job.WordsFault.{WordsFault}
use Rattle.run_words.specs.declared.report_words.ReportOptions.{ReportOptions}
use Rattle.run_reports.specs.AskedJobs.{IsToldOtherwise}
use Rattle.run_reports.specs.AskedRuns.{asks_otherwise, reports}
use Rattle.run_reports.specs.Watching.{watched_by, watched_in, watched_of, watched_where}
use Rattle.run_reports.specs.declared.asked.AskedJob.{AskedJob}

not_plain : (a b c d e : Bool) → d ≡ true → (not a && (not b && (not c && (not d && not e)))) ≡ false
not_plain true b c d e is = refl
not_plain false true c d e is = refl
not_plain false false true d e is = refl
not_plain false false false true e is = refl
not_plain false false false false e is = absurd cc

none_unreported : (asked : Job) → reports asked ≡ false → None ≡ watched_of asked
none_unreported (job.Check script fonts) e = absurd cc
none_unreported (job.Changes changes script fonts) e = absurd cc
none_unreported (job.Play play script fonts) e = absurd cc
none_unreported (job.Stills stills script fonts) e = absurd cc
none_unreported (job.Selftest seed events workers) e = absurd cc
none_unreported (job.Frame frame script fonts) e = refl
none_unreported (job.Write later earlier script) e = refl
none_unreported job.Help e = refl
none_unreported job.Version e = refl

no_report : (some plain : Bool) → (some && not plain) ≡ false → plain ≡ false → some ≡ false
no_report true true e told = absurd cc
no_report true false e told = e
no_report false plain e told = refl

none_where : (options : ReportOptions) (asked : Job) (shown : Bool) → options.progress ≡ shown → asks_otherwise options (Ok asked) ≡ false →
    None ≡ (if shown then watched_of asked else None)
none_where options asked true e plainly =
    let told : is_plain options ≡ false = not_plain (is_some options.form) (is_some options.file) (is_some options.index) options.progress options.quiet_pipe e in
    none_unreported asked (no_report (reports asked) (is_plain options) plainly told)
none_where options asked false e plainly = refl

none_in : (options : ReportOptions) (reading : Result Job WordsFault) → asks_otherwise options reading ≡ false → None ≡ watched_in options reading
none_in options (Ok asked) plainly = none_where options asked options.progress refl plainly
none_in options (Err fault) plainly = refl

-- The report is told by default.
pub watched_plainly : (words : List (List ℕ)) → asks_otherwise (options_of words) (job_of words) ≡ false → None ≡ watched_by words
watched_plainly words plainly = none_in (options_of words) (job_of words) plainly

-- The report is told otherwise.
pub watched_told : (words : List (List ℕ)) (asked : AskedJob) → IsToldOtherwise words asked → watched_where asked.options asked.job ≡ watched_by words
watched_told words asked so =
    ap (λ (o : ReportOptions). watched_where o asked.job) so.options ∙ sym (ap (λ (r : Result Job WordsFault). watched_in (options_of words) r) so.job)
