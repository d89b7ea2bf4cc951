-- Public: what words tell of the report of a run (docs/PROGRAM.md).
use Rattle.std.specs.Prelude.{◌≡◌, ℕ, Bool, false, true, not, ◌&&◌, if◌then◌else◌, List, Option, Some, None, IfOk, IfSome, is_some, option_and_then, unwrap_or}
use Rattle.clap.specs.Simple.{subcommand_of}
use Rattle.clap.specs.Walk.{Row}
use Rattle.run_words.specs.Asked.{is_told, text_at}
use Rattle.run_words.specs.Grammar.{is_taken, words_app}
use Rattle.run_words.specs.Values.{form_in}
use Rattle.run_words.specs.Words.{job_of}
use Rattle.run_words.specs.declared.argument.Argument.TheVariants as argument
use Rattle.run_words.specs.declared.job.Job.{Job}
use Rattle.run_words.specs.declared.job.Job.TheVariants.{Play, Stills}
use Rattle.run_words.specs.declared.report_words.ReportForm.{ReportForm}
use Rattle.run_words.specs.declared.report_words.ReportForm.TheVariants.{Text}
use Rattle.run_words.specs.declared.report_words.ReportOptions.{ReportOptions}

-- what is told where nothing is
abbrev pub plain_options : ReportOptions
plain_options = record { form = None; file = None; index = None; progress = false; quiet_pipe = false }

-- Nothing is told.
abbrev pub is_plain : ReportOptions → Bool
is_plain options =
    not (is_some options.form) && (not (is_some options.file) && (not (is_some options.index) && (not options.progress && not options.quiet_pipe)))

-- the form of the report
abbrev pub report_form : ReportOptions → ReportForm
report_form options = unwrap_or options.form Text

-- what is told to a command
abbrev pub options_at : List Row → ReportOptions
options_at rows = record {
  form = option_and_then form_in (text_at rows argument.Report);
  file = text_at rows argument.ReportTo;
  index = text_at rows argument.Index;
  progress = is_told rows argument.Progress;
  quiet_pipe = is_told rows argument.QuietPipe;
}

-- what is told to the command that was met
abbrev pub options_met : Option (List ℕ × List Row) → ReportOptions
options_met None = plain_options
options_met (Some met) = options_at met.1

-- what the words tell; where they aren't of the grammar they tell nothing
abbrev pub options_of : List (List ℕ) → ReportOptions
options_of words = if is_taken words then options_met (subcommand_of words_app words) else plain_options

-- ---- laws

-- A command that is given none of these options is told nothing.
abbrev pub PlainReportsStay : Type 0
PlainReportsStay =
    (rows : List Row) → text_at rows argument.Report ≡ None → text_at rows argument.ReportTo ≡ None → text_at rows argument.Index ≡ None
    → text_at rows argument.Progress ≡ None → text_at rows argument.QuietPipe ≡ None → is_plain (options_at rows) ≡ true

-- The play has a list only where it is of changed images, and these are whole.
abbrev pub FitsList : Option (List ℕ) → Job → Type 0
FitsList list (Play play script fonts) = list ≡ None
FitsList list (Stills stills script fonts) = IfSome list (λ _. stills.crop ≡ false)
FitsList list _ = Unit {0}

-- The list that words ask for fits the job that they ask for.
abbrev pub ListsFitJobs : Type 0
ListsFitJobs = (words : List (List ℕ)) → IfOk (job_of words) (FitsList (options_of words).index)
