-- Public: what there is to watch of a run.
use Rattle.std.specs.Prelude.{ℕ, ◌*◌, ◌^◌, ◌-◌, min, true, false, if◌then◌else◌, List, Option, Some, None, Result, Ok, Err}
use Rattle.run_words.specs.ReportWords.{options_of}
use Rattle.run_words.specs.Words.{job_of}
use Rattle.run_words.specs.declared.job.Job.{Job}
use Rattle.run_words.specs.declared.job.Job.TheVariants as job
use Rattle.run_words.specs.declared.job.WordsFault.{WordsFault}
use Rattle.run_words.specs.declared.report_words.ReportOptions.{ReportOptions}
use Rattle.play_command.specs.SelftestRuns.{image_count}
use Rattle.run_reports.specs.declared.watch.WatchedRun.{WatchedRun}

-- how many images or lines a job makes, or of how many instants it shows only what changes
abbrev pub watched_of : Job → Option WatchedRun
watched_of (job.Play play script fonts) = Some (record { total = min (play.times * play.instants.count) (2 ^ 64 - 1); is_of_lines = false })
watched_of (job.Selftest seed events workers) = Some (record { total = image_count; is_of_lines = false })
watched_of (job.Changes changes script fonts) = Some (record { total = changes.instants.count; is_of_lines = true })
watched_of (job.Stills stills script fonts) = Some (record { total = stills.instants.count; is_of_lines = false })
watched_of _ = None

-- what there is to watch of a job, where it is to be shown how far the run is
abbrev pub watched_where : ReportOptions → Job → Option WatchedRun
watched_where options asked = if options.progress then watched_of asked else None

abbrev pub watched_in : ReportOptions → Result Job WordsFault → Option WatchedRun
watched_in options (Ok asked) = watched_where options asked
watched_in options (Err fault) = None

-- what there is to watch of the run that words ask for
abbrev pub watched_by : List (List ℕ) → Option WatchedRun
watched_by words = watched_in (options_of words) (job_of words)
